-- What a turn delivers rises by place, and its notes name it in order.
use Rattle.std.proofs.Common.{◌≡◌, inl, inr, ℕ, zero, suc, ◌+◌, ◌-◌, ◌≤◌, max, List, [], ◌∷◌, ◌++◌, map, length, drop, Option, Some, None, Bool, true, false, refl, sym, ap, ◌∙◌, subst, arith}
use Rattle.std.specs.Prelude.{if◌then◌else◌, fold, nat_lt, ◌==◌}
use Rattle.std.specs.Option.{option_map_or}
use Rattle.std.proofs.lemmas.Bool.{le-ltb}
use Rattle.std.proofs.lemmas.List.{append-nil, append_assoc, drop_at}
use Rattle.std.proofs.lemmas.List.Sums.{fold-append}
use Rattle.message_defs.specs.Updates.{Value}
use Rattle.message_defs.specs.Statements.{Claim}
use Rattle.group_defs.specs.Views.{is_member}
use Rattle.group_defs.specs.Process.{Setting, Delivered, Process, places_in}
use Rattle.group_defs.specs.Settle.{decide, deliver, deliver_more, deliverable, install, leave, leave_by, limit, settle}
use Rattle.group_defs.specs.Signing.{Signing}
use Rattle.group_defs.specs.Events.{EventFault, Note, Delivers, Installs, Liar, Spent, Halts, Turn, after, answered, note_if, Outcome, outcome, refusal, signing, take_in}
use Rattle.event_laws.proofs.Taken.{taking_in_leaves}
use Rattle.event_laws.proofs.Signed.{signing_leaves}
use Rattle.pool_laws.proofs.Places.{length-snoc}
use Rattle.safety_laws.proofs.Batches.{AreAt, next-at}
use Rattle.safety_laws.proofs.Induction.{leave-keeps}
use Rattle.following_laws.proofs.Growing.{Extends, as-it-is, keeps}

-- ---- places

-- each message is at the place of the one before it or at a later one, the first at place k or a later one
abbrev pub Rising : ℕ → List Delivered → Type 0
Rising k [] = Unit {0}
Rising k (d ∷ ds) = (k ≤ d.place) × Rising d.place ds

rising-from : (k n : ℕ) (ds : List Delivered) → k ≤ n → Rising n ds → Rising k ds
rising-from k n [] le ok = tt
rising-from k n (d ∷ ds) le ok = let first = ok.0 in (omega (arith, le, first), ok.1)

rising-append : (k n : ℕ) (es ds : List Delivered) → AreAt k es → k ≤ n → Rising n ds → Rising k (es ++ ds)
rising-append k n [] ds are le ok = rising-from k n ds le ok
rising-append k n (e ∷ es) ds are le ok =
    let at = are e (inl refl) in
    (omega (arith, at), subst (λ m. Rising m (es ++ ds)) (sym at) (rising-append k n es ds (λ d m. are d (inr m)) le ok))

pub most-at-least : (n : ℕ) (es : List Delivered) → n ≤ fold (λ (most : ℕ) (d : Delivered). max most (d.place + 1)) n es
most-at-least n [] = omega arith
most-at-least n (e ∷ es) = let rest = most-at-least (max n (e.place + 1)) es in omega (arith, rest)

pub places-grow : (ds es : List Delivered) → places_in ds ≤ places_in (ds ++ es)
places-grow ds es =
    let split = fold-append (λ (most : ℕ) (d : Delivered). max most (d.place + 1)) 0 ds es in
    let more = most-at-least (places_in ds) es in
    omega (arith, split, more)

-- ---- what a turn delivers

-- it stays in its view and delivers more, which rises from the next place on
pub record GoesOn (p r : Process) : Type 0 where
  pub more : List Delivered
  pub rising : Rising (places_in p.delivered) more
  pub me : r.me ≡ p.me
  pub left : r.left ≡ p.left
  pub view : r.pool.view ≡ p.pool.view
  pub delivered : r.delivered ≡ p.delivered ++ more

stays : (p : Process) → GoesOn p p
stays p = record { more = []; rising = tt; me = refl; left = refl; view = refl; delivered = sym (append-nil p.delivered) }

places-on : (n : ℕ) (p : Process) → GoesOn p (deliver_more n p)
unfolding deliver_more
places-on zero p = stays p
places-on (suc n) p = go (deliverable p) refl (places-on n)
  where
    go : (o : Option (List Delivered)) → deliverable p ≡ o → ((q : Process) → GoesOn q (deliver_more n q))
        → GoesOn p (elim o [ None ↦ p | Some ds ↦ deliver_more n (record p { delivered = p.delivered ++ ds }) ])
    go None e next = stays p
    go (Some ds) e next =
        let rest = next (record p { delivered = p.delivered ++ ds }) in
        record {
          more = ds ++ rest.more;
          rising = rising-append (places_in p.delivered) (places_in (p.delivered ++ ds)) ds rest.more (next-at p ds e)
              (places-grow p.delivered ds) rest.rising;
          me = rest.me;
          left = rest.left;
          view = rest.view;
          delivered = rest.delivered ∙ append_assoc p.delivered ds rest.more;
        }

delivers-on : (p : Process) → GoesOn p (deliver p)
delivers-on p = go (is_member p.pool.view p.me)
  where
    go : (m : Bool) → GoesOn p (if m then deliver_more (limit p - places_in p.delivered) p else p)
    go true = places-on (limit p - places_in p.delivered) p
    go false = stays p

-- taken in, signed and decided, it delivers
delivered-on : (setting : Setting) (p : Process) (t : Turn) → GoesOn p (deliver (decide setting (signing setting p t).now))
delivered-on setting p t =
    let now : Process = (signing setting p t).now in
    let signed = (signing_leaves setting t.signer t.allowance (take_in setting p t.event)).rest in
    let taken = taking_in_leaves setting p t.event in
    let same : now.delivered ≡ p.delivered = ap (λ (x : Process). x.delivered) signed ∙ ap (λ (x : Process). x.delivered) taken in
    let rest = delivers-on (decide setting now) in
    record {
      more = rest.more;
      rising = subst (λ ds. Rising (places_in ds) rest.more) same rest.rising;
      me = rest.me ∙ ap (λ (x : Process). x.me) signed ∙ ap (λ (x : Process). x.me) taken;
      left = rest.left ∙ ap (λ (x : Process). x.left) signed ∙ ap (λ (x : Process). x.left) taken;
      view = rest.view ∙ ap (λ (x : Process). x.pool.view) signed ∙ ap (λ (x : Process). x.pool.view) taken;
      delivered = rest.delivered ∙ ap (λ ds. ds ++ rest.more) same;
    }

-- ---- its notes

-- none of them tells of a message or a view
abbrev pub Quiet : List Note → Type 0
Quiet [] = Unit {0}
Quiet (Delivers x d ∷ ns) = ⊥
Quiet (Installs v ∷ ns) = ⊥
Quiet (Liar p ∷ ns) = Quiet ns
Quiet (Spent ∷ ns) = Quiet ns
Quiet (Halts k m ∷ ns) = Quiet ns

quiet-rest : (pairs : List (Claim × Claim)) (spent halted : Bool) (k m : ℕ)
    → Quiet (map (λ (pair : Claim × Claim). Liar pair.1.signer) pairs ++ note_if spent Spent ++ note_if halted (Halts k m))
quiet-rest [] true true k m = tt
quiet-rest [] true false k m = tt
quiet-rest [] false true k m = tt
quiet-rest [] false false k m = tt
quiet-rest (p ∷ pairs) spent halted k m = quiet-rest pairs spent halted k m

-- as a turn goes: p delivers more as it becomes `done`, and leaves its view or not as it becomes r; and these are the notes
pub record TurnSo (p r : Process) (ns : List Note) : Type 0 where
  pub done : Process
  pub on : GoesOn p done
  pub later : Extends done r
  pub still : length r.left ≡ length p.left → r.delivered ≡ done.delivered
  pub rest : List Note
  pub quiet : Quiet rest
  pub notes : ns ≡ map (Delivers p.pool.view.number) on.more
      ++ (note_if (nat_lt (length p.left) (length r.left)) (Installs r.pool.view) ++ rest)

-- it delivers nothing as it leaves its view
module _ (done : Process) where
  abbrev StillSo : Process → Type 0
  StillSo r = length r.left ≡ length done.left → r.delivered ≡ done.delivered

  installed : (d : ℕ × Value) → StillSo (install d done)
  installed d same = absurd
      (let more : length (install d done).left ≡ suc (length done.left) = length-snoc done.left _ in omega (arith, same, more))

  by : (d : ℕ × Value) (m whole : Bool)
      → StillSo (if m then
      (if whole then install d done else record done { halted = nat_lt d.1.cut (places_in done.delivered) }) else install d done)
  by d true true = installed d
  by d true false = λ same. refl
  by d false whole = installed d

  by-decision : (o : Option (ℕ × Value)) → StillSo (elim o [ None ↦ done | Some d ↦ leave_by d done ])
  by-decision None = λ same. refl
  by-decision (Some d) = by d (is_member done.pool.view done.me) (places_in done.delivered == d.1.cut)

still-delivered : (done : Process) → length (leave done).left ≡ length done.left → (leave done).delivered ≡ done.delivered
still-delivered done = by-decision done done.decision

five : (a b c d e : List Note) → (((a ++ b) ++ c) ++ d) ++ e ≡ a ++ (b ++ ((c ++ d) ++ e))
five a b c d e =
    ap (λ l. (l ++ d) ++ e) (append_assoc a b c)
    ∙ ap (λ l. l ++ e) (append_assoc a (b ++ c) d)
    ∙ append_assoc a ((b ++ c) ++ d) e
    ∙ ap (λ l. a ++ l) (ap (λ l. l ++ e) (append_assoc b c d) ∙ append_assoc b (c ++ d) e)

-- an event that is not refused
not-refused : (setting : Setting) (p : Process) (t : Turn)
    → TurnSo p (settle setting (signing setting p t).now) (answered setting p t (signing setting p t)).notes
unfolding settle
not-refused setting p t =
    let one : Signing = signing setting p t in
    let done : Process = deliver (decide setting one.now) in
    let r : Process = leave done in
    let on = delivered-on setting p t in
    let conflicts : List (Claim × Claim) = drop (length p.conflicts) r.conflicts in
    let rest : List Note = map (λ (pair : Claim × Claim). Liar pair.1.signer) conflicts ++ note_if one.spent Spent
    ++ note_if r.halted (Halts (places_in r.delivered) (option_map_or (λ d. d.1.cut) r.decision 0)) in
    let tail : List Note = note_if (nat_lt (length p.left) (length r.left)) (Installs r.pool.view) ++ rest in
    record {
      done = done;
      on = on;
      later = leave-keeps setting [] (Extends done) (keeps setting [] done) done (as-it-is done);
      still = λ same. still-delivered done (same ∙ ap length (sym on.left));
      rest = rest;
      quiet = quiet-rest conflicts one.spent r.halted (places_in r.delivered) (option_map_or (λ d. d.1.cut) r.decision 0);
      notes = five (map (Delivers p.pool.view.number) (drop (length p.delivered) done.delivered))
          (note_if (nat_lt (length p.left) (length r.left)) (Installs r.pool.view))
          (map (λ (pair : Claim × Claim). Liar pair.1.signer) conflicts) (note_if one.spent Spent)
          (note_if r.halted (Halts (places_in r.delivered) (option_map_or (λ d. d.1.cut) r.decision 0)))
          ∙ ap (λ ds. map (Delivers p.pool.view.number) ds ++ tail)
          (ap (drop (length p.delivered)) on.delivered ∙ drop_at p.delivered on.more (length p.delivered) refl);
    }

refused : (p : Process) → TurnSo p p []
unfolding stays
refused p = record {
  done = p;
  on = stays p;
  later = as-it-is p;
  still = λ same. refl;
  rest = [];
  quiet = tt;
  notes = ap (λ i. note_if i (Installs p.pool.view) ++ []) (sym (le-ltb (length p.left) (length p.left) (omega arith)));
}

pub turn-so : (setting : Setting) (p : Process) (t : Turn) → TurnSo p (after setting p t) (outcome setting p t).notes
unfolding after
turn-so setting p t = go (refusal setting p t.event)
  where
    go : (o : Option EventFault) → let out : Outcome = elim o [
      | None ↦ answered setting p t (signing setting p t)
      | Some fault ↦ record { verdict = Some fault; heard = 0; signed = []; spent = false; sends = []; notes = [] }
    ] in
        TurnSo p (elim o [ None ↦ settle setting (signing setting p t).now | Some fault ↦ p ]) out.notes
    go None = not-refused setting p t
    go (Some fault) = refused p
