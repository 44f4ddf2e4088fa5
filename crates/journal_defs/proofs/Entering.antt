-- What is read as an entry is its spelling, and the spelling of an entry is read as it.
use Rattle.std.proofs.Common.{◌≡◌, ℕ, zero, suc, ◌*◌, ◌≤◌, ◌<◌, Bool, true, false, ltb, eqb, List, [], ◌∷◌, ◌++◌, length, Ok, Err, refl, sym, ap, subst, ◌∙◌, append_assoc, arith, ◌⊎◌, ⊎_elim, inl, inr, length-append}
use Rattle.std.specs.Prelude.{if◌then◌else◌}
use Rattle.std.specs.List.{flat_map}
use Rattle.std.specs.Int.{w8, w16}
use Rattle.std.proofs.lemmas.Bool.{ltb-false, le-ltb, eqb-true}
use Rattle.std.proofs.lemmas.List.{append-nil, nil_from_length}
use Rattle.byte_defs.specs.Fields.{◌>>=◌, refuse_if, number_at, bytes_at, two_bytes, text}
use Rattle.byte_defs.proofs.Fields.{IsBytes, Takes, Takes-then, bind_ok, refuse_ok, ok_is, byte_takes, byte_again, short_takes, short_again, bytes_takes, bytes_again}
use Rattle.message_defs.specs.Limits.{last_process, most_signature_bytes}
use Rattle.message_defs.specs.Entries.{kept_at, all_kept_at}
use Rattle.journal_defs.specs.Entries.{Event, Submit, Frame, Suspect, Join, Renew, Tick, Entry, IsEntry, IsEvent, AreSignatures, Reading, event_bytes, flag, signatures_bytes, entry_bytes, process_at, text_at, submit_at, frame_at, of_process_at, event_behind, event_at, flag_at, signatures_at, entry_of, EntryIsSpelled, EntryIsRead}

-- the one fault
abbrev broken : Unit {0}
broken = tt

abbrev done : {A : Type 0} → A → Reading A
done x = Ok x

-- ---- an entry is read step by step

abbrev ends : ℕ → Event → Bool → List (List ℕ) × List ℕ → Reading Entry
ends p event spent ss = refuse_if (ltb 0 (length ss.1)) broken >>= λ _. done
    (record { process = p; event = event; spent = spent; signatures = ss.0 })

abbrev then_signed : ℕ → Event → Bool × List ℕ → Reading Entry
then_signed p event spent = signatures_at spent.1 >>= ends p event spent.0

abbrev then_spent : ℕ → Event × List ℕ → Reading Entry
then_spent p event = flag_at event.1 >>= then_signed p event.0

abbrev then_event : ℕ × List ℕ → Reading Entry
then_event p = event_at p.1 >>= then_spent p.0

-- ---- what is spelled is read

pub bind_is : {A B : Type 0} (r : Reading A) (f : A → Reading B) (x : A) (y : Reading B) → r ≡ Ok x → f x ≡ y → (r >>= f) ≡ y
bind_is r f x y e g = ap (λ (k : Reading _). k >>= f) e ∙ g

pub pass : {B : Type 0} (b : Bool) (f : Unit {0} → Reading B) → b ≡ false → (refuse_if b tt >>= f) ≡ f tt
pass b f e = ap (λ (k : Bool). refuse_if k tt >>= f) e

abbrev is_process : ℕ × List ℕ → Reading (ℕ × List ℕ)
is_process n = refuse_if (ltb last_process n.0) broken >>= λ _. done n

process_again : (p : ℕ) (rest : List ℕ) → p ≤ last_process → process_at (p ∷ rest) ≡ Ok (p, rest)
process_again p rest le = bind_is (number_at broken w8 (p ∷ rest)) is_process (p, rest) (done (p, rest)) (byte_again broken p rest)
    (pass (ltb last_process p) (λ _. done (p, rest)) (le-ltb _ _ le))

text_again : (t rest : List ℕ) → length t < 65536 → text_at (text t ++ rest) ≡ Ok (t, rest)
text_again t rest lt = bind_is (number_at tt w16 (two_bytes (length t) ++ (t ++ rest))) (λ len. bytes_at tt len.0 len.1)
    (length t, t ++ rest) (Ok (t, rest)) (short_again tt (length t) (t ++ rest) lt) (bytes_again tt t rest)

kept_again : (s rest : List ℕ) → length s ≤ most_signature_bytes → kept_at (text s ++ rest) ≡ Ok (s, rest)
unfolding kept_at
kept_again s rest le =
    bind_is (number_at tt w16 (two_bytes (length s) ++ (s ++ rest)))
    (λ len. refuse_if (ltb most_signature_bytes len.0) tt >>= λ _. bytes_at tt len.0 len.1) (length s, s ++ rest) (Ok (s, rest))
    (short_again tt (length s) (s ++ rest) (omega (arith, le)))
    (pass (ltb most_signature_bytes (length s)) (λ _. bytes_at broken (length s) (s ++ rest)) (le-ltb _ _ le) ∙ bytes_again tt s rest)

all_kept_again : (ss : List (List ℕ)) (rest : List ℕ) → AreSignatures ss
    → all_kept_at (length ss) (flat_map text ss ++ rest) ≡ Ok (ss, rest)
unfolding all_kept_at
all_kept_again [] rest each = refl
all_kept_again (s ∷ ss) rest each =
    bind_is (kept_at (text s ++ flat_map text ss ++ rest))
    (λ first. all_kept_at (length ss) first.1 >>= λ others. Ok (first.0 ∷ others.0, others.1)) (s, flat_map text ss ++ rest)
    (Ok (s ∷ ss, rest))
    (ap kept_at (append_assoc (text s) (flat_map text ss) rest) ∙ kept_again s (flat_map text ss ++ rest) each.0)
    (bind_is (all_kept_at (length ss) (flat_map text ss ++ rest)) (λ others. Ok (s ∷ others.0, others.1)) (ss, rest) (Ok (s ∷ ss, rest))
    (all_kept_again ss rest each.1) refl)

signatures_again : (ss : List (List ℕ)) (rest : List ℕ) → length ss < 65536 → AreSignatures ss
    → signatures_at (signatures_bytes ss ++ rest) ≡ Ok (ss, rest)
signatures_again ss rest lt each =
    bind_is (number_at tt w16 (two_bytes (length ss) ++ (flat_map text ss ++ rest))) (λ count. all_kept_at count.0 count.1)
    (length ss, flat_map text ss ++ rest) (Ok (ss, rest)) (short_again tt (length ss) (flat_map text ss ++ rest) lt)
    (all_kept_again ss rest each)

abbrev by_tag : ℕ × List ℕ → Reading (Event × List ℕ)
by_tag tag = event_behind tag.0 tag.1

tagged : (tag : ℕ) (rest : List ℕ) (y : Reading (Event × List ℕ)) → event_behind tag rest ≡ y → event_at (tag ∷ rest) ≡ y
unfolding event_at
tagged tag rest y e = bind_is (number_at broken w8 (tag ∷ rest)) by_tag (tag, rest) y (byte_again broken tag rest) e

event_again : (e : Event) (rest : List ℕ) → IsEvent e → event_at (event_bytes e ++ rest) ≡ Ok (e, rest)
unfolding submit_at frame_at of_process_at
event_again (Submit payload) rest lt = tagged 1 (text payload ++ rest) (done (Submit payload, rest))
    (bind_is (text_at (text payload ++ rest)) (λ p. done (Submit p.0, p.1)) (payload, rest) (done (Submit payload, rest))
    (text_again payload rest lt) refl)
event_again (Frame from bytes) rest is =
    let y = done (Frame from bytes, rest) in
    tagged 2 (from ∷ (text bytes ++ rest)) y
    (bind_is (process_at (from ∷ (text bytes ++ rest))) (λ f. text_at f.1 >>= λ t. done (Frame f.0 t.0, t.1))
    (from, text bytes ++ rest) y (process_again from (text bytes ++ rest) is.0)
    (bind_is (text_at (text bytes ++ rest)) (λ t. done (Frame from t.0, t.1)) (bytes, rest) y (text_again bytes rest is.1) refl))
event_again (Suspect q) rest le = tagged 6 (q ∷ rest) (done (Suspect q, rest))
    (bind_is (process_at (q ∷ rest)) (λ p. done (Suspect p.0, p.1)) (q, rest) (done (Suspect q, rest)) (process_again q rest le) refl)
event_again (Join q) rest le = tagged 7 (q ∷ rest) (done (Join q, rest))
    (bind_is (process_at (q ∷ rest)) (λ p. done (Join p.0, p.1)) (q, rest) (done (Join q, rest)) (process_again q rest le) refl)
event_again Renew rest is = tagged 8 rest (done (Renew, rest)) refl
event_again Tick rest is = tagged 9 rest (done (Tick, rest)) refl

abbrev is_flag : ℕ × List ℕ → Reading (Bool × List ℕ)
is_flag n = refuse_if (ltb 1 n.0) broken >>= λ _. done (eqb n.0 1, n.1)

flag_again : (b : Bool) (rest : List ℕ) → flag_at (flag b ∷ rest) ≡ Ok (b, rest)
flag_again true rest = bind_is (number_at broken w8 (1 ∷ rest)) is_flag (1, rest) (done (true, rest)) (byte_again broken 1 rest) refl
flag_again false rest = bind_is (number_at broken w8 (0 ∷ rest)) is_flag (0, rest) (done (false, rest)) (byte_again broken 0 rest) refl

pub entry_is_read : EntryIsRead
unfolding entry_of
entry_is_read e is =
    let sign = signatures_bytes e.signatures in
    let y = done e in
    bind_is (process_at (entry_bytes e)) then_event (e.process, event_bytes e.event ++ flag e.spent ∷ sign) y
    (process_again e.process (event_bytes e.event ++ flag e.spent ∷ sign) is.process)
    (bind_is (event_at (event_bytes e.event ++ flag e.spent ∷ sign)) (then_spent e.process)
    (e.event, flag e.spent ∷ sign) y (event_again e.event (flag e.spent ∷ sign) is.event)
    (bind_is (flag_at (flag e.spent ∷ sign)) (then_signed e.process e.event) (e.spent, sign) y (flag_again e.spent sign)
    (bind_is (signatures_at sign) (ends e.process e.event e.spent) (e.signatures, []) y
    (ap (λ (l : List ℕ). signatures_at l) (sym (append-nil sign)) ∙ signatures_again e.signatures [] is.count is.each) refl)))

-- ---- what is read is spelled

chosen : {A : Type 0} (b : Bool) (x y z : A) → (if b then x else y) ≡ z → ((b ≡ true) × (x ≡ z)) ⊎ ((b ≡ false) × (y ≡ z))
chosen true x y z e = inl (refl, e)
chosen false x y z e = inr (refl, e)

process_takes : (bytes : List ℕ) (p : ℕ) (rest : List ℕ) → IsBytes bytes → process_at bytes ≡ Ok (p, rest)
    → Takes bytes (p ∷ []) rest × (p ≤ last_process)
process_takes bytes p rest fits e =
    let n = bind_ok (number_at broken w8 bytes) is_process (p, rest) e in
    let r = refuse_ok (ltb last_process n.0.0) broken (λ _. done n.0) (p, rest) n.2 in
    let same : n.0 ≡ (p, rest) = ok_is n.0 (p, rest) r.1 in
    let t = byte_takes broken bytes n.0.0 n.0.1 fits n.1 in
    subst (λ (x : ℕ × List ℕ). Takes bytes (x.0 ∷ []) x.1 × (x.0 ≤ last_process)) same (t.0, ltb-false _ _ r.0)

text_takes : (bytes out rest : List ℕ) → IsBytes bytes → text_at bytes ≡ Ok (out, rest) → Takes bytes (text out) rest × (length out < 65536)
text_takes bytes out rest fits e =
    let n = bind_ok (number_at broken w16 bytes) (λ len. bytes_at broken len.0 len.1) (out, rest) e in
    let t = short_takes broken bytes n.0.0 n.0.1 fits n.1 in
    let b = bytes_takes broken n.0.0 n.0.1 out rest t.0.rest_fits n.2 in
    subst (λ (k : ℕ). Takes bytes (two_bytes k ++ out) rest × (k < 65536)) (sym b.1)
    (Takes-then bytes (two_bytes n.0.0) n.0.1 out rest t.0 b.0, t.1)

kept_takes : (bytes out rest : List ℕ) → IsBytes bytes → kept_at bytes ≡ Ok (out, rest)
    → Takes bytes (text out) rest × (length out ≤ most_signature_bytes)
unfolding kept_at
kept_takes bytes out rest fits e =
    let n = bind_ok (number_at broken w16 bytes)
    (λ len. refuse_if (ltb most_signature_bytes len.0) broken >>= λ _. bytes_at broken len.0 len.1) (out, rest) e in
    let r = refuse_ok (ltb most_signature_bytes n.0.0) broken (λ _. bytes_at broken n.0.0 n.0.1) (out, rest) n.2 in
    let t = short_takes broken bytes n.0.0 n.0.1 fits n.1 in
    let b = bytes_takes broken n.0.0 n.0.1 out rest t.0.rest_fits r.1 in
    subst (λ (k : ℕ). Takes bytes (two_bytes k ++ out) rest × (k ≤ most_signature_bytes)) (sym b.1)
    (Takes-then bytes (two_bytes n.0.0) n.0.1 out rest t.0 b.0, ltb-false _ _ r.0)

all_kept_takes : (n : ℕ) (bytes : List ℕ) (ss : List (List ℕ)) (rest : List ℕ) → IsBytes bytes → all_kept_at n bytes ≡ Ok (ss, rest)
    → Takes bytes (flat_map text ss) rest × (length ss ≡ n) × AreSignatures ss
unfolding all_kept_at
all_kept_takes zero bytes ss rest fits e =
    subst (λ (x : List (List ℕ) × List ℕ). Takes bytes (flat_map text x.0) x.1 × (length x.0 ≡ 0) × AreSignatures x.0)
    (ok_is ([], bytes) (ss, rest) e) (record { parts = refl; rest_fits = fits }, refl, tt)
all_kept_takes (suc n) bytes ss rest fits e =
    let f = bind_ok (kept_at bytes) (λ first. all_kept_at n first.1 >>= λ others. done (first.0 ∷ others.0, others.1)) (ss, rest) e in
    let o = bind_ok (all_kept_at n f.0.1) (λ others. done (f.0.0 ∷ others.0, others.1)) (ss, rest) f.2 in
    let k = kept_takes bytes f.0.0 f.0.1 fits f.1 in
    let a = all_kept_takes n f.0.1 o.0.0 o.0.1 k.0.rest_fits o.1 in
    subst (λ (x : List (List ℕ) × List ℕ). Takes bytes (flat_map text x.0) x.1 × (length x.0 ≡ suc n) × AreSignatures x.0)
    (ok_is (f.0.0 ∷ o.0.0, o.0.1) (ss, rest) o.2)
    (Takes-then bytes (text f.0.0) f.0.1 (flat_map text o.0.0) o.0.1 k.0 a.0, ap suc a.1, (k.1, a.2))

signatures_takes : (bytes : List ℕ) (ss : List (List ℕ)) (rest : List ℕ) → IsBytes bytes → signatures_at bytes ≡ Ok (ss, rest)
    → Takes bytes (signatures_bytes ss) rest × (length ss < 65536) × AreSignatures ss
signatures_takes bytes ss rest fits e =
    let n = bind_ok (number_at broken w16 bytes) (λ count. all_kept_at count.0 count.1) (ss, rest) e in
    let t = short_takes broken bytes n.0.0 n.0.1 fits n.1 in
    let a = all_kept_takes n.0.0 n.0.1 ss rest t.0.rest_fits n.2 in
    subst (λ (k : ℕ). Takes bytes (two_bytes k ++ flat_map text ss) rest × (k < 65536) × AreSignatures ss) (sym a.1)
    (Takes-then bytes (two_bytes n.0.0) n.0.1 (flat_map text ss) rest t.0 a.0, t.1, a.2)

abbrev fails : Reading (Event × List ℕ)
fails = Err broken

abbrev TakesEvent : List ℕ → Event × List ℕ → Type 0
TakesEvent bytes x = Takes bytes (event_bytes x.0) x.1 × IsEvent x.0

module _ (bytes rest : List ℕ) (tag : ℕ) (front : Takes bytes (tag ∷ []) rest) (x : Event × List ℕ) where
  submit_takes : tag ≡ 1 → submit_at rest ≡ Ok x → TakesEvent bytes x
  unfolding submit_at
  submit_takes is e =
      let t = bind_ok (text_at rest) (λ p. done (Submit p.0, p.1)) x e in
      let p = text_takes rest t.0.0 t.0.1 front.rest_fits t.1 in
      subst (TakesEvent bytes) (ok_is (Submit t.0.0, t.0.1) x t.2)
      (subst (λ (k : ℕ). Takes bytes (k ∷ text t.0.0) t.0.1) is (Takes-then bytes (tag ∷ []) rest (text t.0.0) t.0.1 front p.0), p.1)

  frame_takes : tag ≡ 2 → frame_at rest ≡ Ok x → TakesEvent bytes x
  unfolding frame_at
  frame_takes is e =
      let f = bind_ok (process_at rest) (λ from. text_at from.1 >>= λ t. done (Frame from.0 t.0, t.1)) x e in
      let t = bind_ok (text_at f.0.1) (λ t. done (Frame f.0.0 t.0, t.1)) x f.2 in
      let q = process_takes rest f.0.0 f.0.1 front.rest_fits f.1 in
      let p = text_takes f.0.1 t.0.0 t.0.1 q.0.rest_fits t.1 in
      subst (TakesEvent bytes) (ok_is (Frame f.0.0 t.0.0, t.0.1) x t.2) (
        subst (λ (k : ℕ). Takes bytes (k ∷ f.0.0 ∷ text t.0.0) t.0.1) is
            (Takes-then bytes (tag ∷ []) rest (f.0.0 ∷ text t.0.0) t.0.1 front
            (Takes-then rest (f.0.0 ∷ []) f.0.1 (text t.0.0) t.0.1 q.0 p.0)),
        (q.1, p.1),
      )

  suspect_takes : tag ≡ 6 → of_process_at Suspect rest ≡ Ok x → TakesEvent bytes x
  unfolding of_process_at
  suspect_takes is e =
      let f = bind_ok (process_at rest) (λ q. done (Suspect q.0, q.1)) x e in
      let q = process_takes rest f.0.0 f.0.1 front.rest_fits f.1 in
      subst (TakesEvent bytes) (ok_is (Suspect f.0.0, f.0.1) x f.2)
      (subst (λ (k : ℕ). Takes bytes (k ∷ f.0.0 ∷ []) f.0.1) is (Takes-then bytes (tag ∷ []) rest (f.0.0 ∷ []) f.0.1 front q.0), q.1)

  join_takes : tag ≡ 7 → of_process_at Join rest ≡ Ok x → TakesEvent bytes x
  unfolding of_process_at
  join_takes is e =
      let f = bind_ok (process_at rest) (λ q. done (Join q.0, q.1)) x e in
      let q = process_takes rest f.0.0 f.0.1 front.rest_fits f.1 in
      subst (TakesEvent bytes) (ok_is (Join f.0.0, f.0.1) x f.2)
      (subst (λ (k : ℕ). Takes bytes (k ∷ f.0.0 ∷ []) f.0.1) is (Takes-then bytes (tag ∷ []) rest (f.0.0 ∷ []) f.0.1 front q.0), q.1)

  behind_takes : event_behind tag rest ≡ Ok x → TakesEvent bytes x
  behind_takes e =
      ⊎_elim (λ h. submit_takes (eqb-true _ _ h.0) h.1) (λ a.
      ⊎_elim (λ h. frame_takes (eqb-true _ _ h.0) h.1) (λ b.
      ⊎_elim (λ h. suspect_takes (eqb-true _ _ h.0) h.1) (λ c.
      ⊎_elim (λ h. join_takes (eqb-true _ _ h.0) h.1) (λ d.
      ⊎_elim (λ h. subst (TakesEvent bytes) (ok_is (Renew, rest) x h.1)
      (subst (λ (k : ℕ). Takes bytes (k ∷ []) rest) (eqb-true _ _ h.0) front, tt)) (λ f.
      ⊎_elim (λ h. subst (TakesEvent bytes) (ok_is (Tick, rest) x h.1)
      (subst (λ (k : ℕ). Takes bytes (k ∷ []) rest) (eqb-true _ _ h.0) front, tt)) (λ g. absurd (no_ok g.1))
      (chosen (eqb tag 9) _ _ _ f.1)) (chosen (eqb tag 8) _ _ _ d.1)) (chosen (eqb tag 7) _ _ _ c.1)) (chosen (eqb tag 6) _ _ _ b.1))
      (chosen (eqb tag 2) _ _ _ a.1)) (chosen (eqb tag 1) _ _ _ e)
    where
      no_ok : fails ≡ done x → ⊥
      no_ok h = cc

event_takes : (bytes : List ℕ) (e : Event) (rest : List ℕ) → IsBytes bytes → event_at bytes ≡ Ok (e, rest) → TakesEvent bytes (e, rest)
unfolding event_at
event_takes bytes e rest fits read =
    let n = bind_ok (number_at broken w8 bytes) by_tag (e, rest) read in
    let t = byte_takes broken bytes n.0.0 n.0.1 fits n.1 in
    behind_takes bytes n.0.1 n.0.0 t.0 (e, rest) n.2

flag_is : (n : ℕ) → n ≤ 1 → n ≡ flag (eqb n 1)
flag_is zero le = refl
flag_is (suc zero) le = refl
flag_is (suc (suc n)) le = absurd (omega arith)

flag_takes : (bytes : List ℕ) (b : Bool) (rest : List ℕ) → IsBytes bytes → flag_at bytes ≡ Ok (b, rest) → Takes bytes (flag b ∷ []) rest
flag_takes bytes b rest fits e =
    let n = bind_ok (number_at broken w8 bytes) is_flag (b, rest) e in
    let r = refuse_ok (ltb 1 n.0.0) broken (λ _. done (eqb n.0.0 1, n.0.1)) (b, rest) n.2 in
    let t = byte_takes broken bytes n.0.0 n.0.1 fits n.1 in
    subst (λ (x : Bool × List ℕ). Takes bytes (flag x.0 ∷ []) x.1) (ok_is (eqb n.0.0 1, n.0.1) (b, rest) r.1)
    (subst (λ (k : ℕ). Takes bytes (k ∷ []) n.0.1) (flag_is n.0.0 (ltb-false _ _ r.0)) t.0)

all_parts : (a b c d e : List ℕ) (p : ℕ) (v : List ℕ) (f : ℕ) (s : List ℕ) → a ≡ (p ∷ []) ++ b → b ≡ v ++ c → c ≡ (f ∷ []) ++ d → d ≡ s ++ e
    → e ≡ [] → a ≡ p ∷ (v ++ f ∷ s)
all_parts a b c d e p v f s ab bc cd de none =
    ab ∙ ap (λ (l : List ℕ). p ∷ l)
    (bc ∙ ap (λ (l : List ℕ). v ++ l) (cd ∙ ap (λ (l : List ℕ). f ∷ l) (de ∙ ap (λ (l : List ℕ). s ++ l) none ∙ append-nil s)))

pub entry_is_spelled : EntryIsSpelled
unfolding entry_of
entry_is_spelled bytes e fits read =
    let p = bind_ok (process_at bytes) then_event e read in
    let v = bind_ok (event_at p.0.1) (then_spent p.0.0) e p.2 in
    let f = bind_ok (flag_at v.0.1) (then_signed p.0.0 v.0.0) e v.2 in
    let s = bind_ok (signatures_at f.0.1) (ends p.0.0 v.0.0 f.0.0) e f.2 in
    let r = refuse_ok (ltb 0 (length s.0.1)) broken
    (λ _. done (record { process = p.0.0; event = v.0.0; spent = f.0.0; signatures = s.0.0 })) e s.2 in
    let tp = process_takes bytes p.0.0 p.0.1 fits p.1 in
    let tv = event_takes p.0.1 v.0.0 v.0.1 tp.0.rest_fits v.1 in
    let tf = flag_takes v.0.1 f.0.0 f.0.1 tv.0.rest_fits f.1 in
    let ts = signatures_takes f.0.1 s.0.0 s.0.1 tf.rest_fits s.1 in
    let none : s.0.1 ≡ [] = nil_from_length s.0.1 (omega (arith, ltb-false _ _ r.0)) in
    let whole = all_parts bytes p.0.1 v.0.1 f.0.1 s.0.1 p.0.0 (event_bytes v.0.0) (flag f.0.0)
    (signatures_bytes s.0.0) tp.0.parts tv.0.parts tf.parts ts.0.parts none in
    subst (λ (x : Entry). (bytes ≡ entry_bytes x) × IsEntry x)
    (ok_is (record { process = p.0.0; event = v.0.0; spent = f.0.0; signatures = s.0.0 }) e r.1)
    (whole, record { process = tp.1; event = tv.1; count = ts.1; each = ts.2 })

-- ---- how long an entry is

kept_len : (ss : List (List ℕ)) → AreSignatures ss → length (flat_map text ss) ≤ length ss * 16386
kept_len [] each = omega arith
kept_len (s ∷ ss) each = omega (arith, kept_len ss each.1, each.0, length-append (text s) (flat_map text ss))

event_len : (e : Event) → IsEvent e → length (event_bytes e) ≤ 65539
event_len (Submit payload) is = omega (arith, is)
event_len (Frame from bytes) is = omega (arith, is.1)
event_len (Suspect q) is = omega arith
event_len (Join q) is = omega arith
event_len Renew is = omega arith
event_len Tick is = omega arith

pub entry_len : (e : Entry) → IsEntry e → length (entry_bytes e) < 4294967296
entry_len e is =
    omega (
      arith,
      event_len e.event is.event,
      kept_len e.signatures is.each,
      is.count,
      length-append (event_bytes e.event) (flag e.spent ∷ signatures_bytes e.signatures),
    )
