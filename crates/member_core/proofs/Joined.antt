-- The parts of an event, put together.
use Rattle.std.proofs.Common.{◌≡◌, ℕ, ◌-◌, List, [], ◌∷◌, ◌++◌, map, length, drop, Option, None, Some, Bool, true, false, refl, sym, ap, subst, ◌∙◌, arith, inl, inr}
use Rattle.std.specs.Prelude.{if◌then◌else◌, ◌==◌, ◌≤◌, filter, nat_lt, All}
use Rattle.std.specs.List.{flat_map}
use Rattle.std.proofs.lemmas.List.{append_assoc, append-nil, drop_at, length-append, length-map}
use Rattle.std.proofs.lemmas.Bool.{eqb-false}
use Rattle.message_defs.specs.Spelling.{IsClaim, IsStatement}
use Rattle.message_defs.specs.Statements.{Claim, view_of}
use Rattle.message_defs.specs.Packing.{Signed, signed_of}
use Rattle.group_defs.specs.Process.{Setting, Process}
use Rattle.group_defs.specs.Signing.{Signer, Signing, sign_all}
use Rattle.group_defs.specs.Settle.{decide, deliver, leave, settle}
use Rattle.group_defs.specs.Sending.{Bundle, bundle, newly_signed, others, unless_empty}
use Rattle.group_defs.specs.Events.{Event, EventFault, Outcome, Turn, Delivers, Installs, Spent, refusal, take_in, signing, after, answered, outcome, is_tick, answers, note_if}
use Rattle.member_events.specs.Below.{signed, OwnClaim}
use Rattle.member_events.specs.declared.events.Outcome.{Outcome as Came}
use Rattle.member_events.specs.declared.events.EventVerdict.TheVariants.{Taken}
use Rattle.member_signing.specs.States.{ProcessState}
use Rattle.member_signing.specs.Signed.{IsSigned}
use Rattle.pool_laws.proofs.Members.{Mem, All-mem, mem-All, mem-behind}
use Rattle.event_laws.specs.Parts.{HasSigned}
use Rattle.event_laws.proofs.Taken.{taking_in_leaves}
use Rattle.event_laws.proofs.Signed.{signing_leaves}
use Rattle.event_laws.proofs.Settled.{settling_leaves}
use Rattle.event_laws.specs.Slots.{FillsSlots, most_signed}
use Rattle.event_laws.proofs.Slots.{slots_are_few}
use Rattle.event_laws.proofs.Once.{signing_fills_slots}
use Rattle.member_signing.specs.States.{IsStateOf, signed_here, refusal as verdict-of, frame_to, frames_to, note, IsOutcome}
use Rattle.member_sending.specs.Began.{Began}
use Rattle.member_core.specs.Outcomes.{HasBegun, HasEnded, HasTaken, halts, liars_from, refusing}

-- ---- what is the same behind taking in and signing

record Same (p q : Process) : Type 0 where
  pub me : q.me ≡ p.me
  pub view : q.pool.view ≡ p.pool.view
  pub delivered : q.delivered ≡ p.delivered
  pub left : q.left ≡ p.left

pub signed-still : (s : Setting) (p : Process) (e : Event) → (take_in s p e).signed ≡ p.signed
signed-still s p e = ap (λ (x : Process). x.signed) (taking_in_leaves s p e)

same-so : (s : Setting) (signer : Signer) (left : ℕ) (p : Process) (e : Event) → Same p (sign_all s signer left (take_in s p e)).now
same-so s signer left p e =
    let a = taking_in_leaves s p e in
    let b = (signing_leaves s signer left (take_in s p e)).rest in
    record {
      me = ap (λ (x : Process). x.me) b ∙ ap (λ (x : Process). x.me) a;
      view = ap (λ (x : Process). x.pool.view) b ∙ ap (λ (x : Process). x.pool.view) a;
      delivered = ap (λ (x : Process). x.delivered) b ∙ ap (λ (x : Process). x.delivered) a;
      left = ap (λ (x : Process). x.left) b ∙ ap (λ (x : Process). x.left) a;
    }

-- ---- what was signed in this event is the last of what was signed in the view

filter-both : (f : Claim → Bool) (xs ys : List Claim) → filter f (xs ++ ys) ≡ filter f xs ++ filter f ys
filter-both f [] ys = refl
filter-both f (x ∷ xs) ys = go (f x) (filter-both f xs ys)
  where
    go : (b : Bool) → filter f (xs ++ ys) ≡ filter f xs ++ filter f ys
        → (if b then x ∷ filter f (xs ++ ys) else filter f (xs ++ ys)) ≡ (if b then x ∷ filter f xs else filter f xs) ++ filter f ys
    go true rest = ap (λ cs. x ∷ cs) rest
    go false rest = rest

filter-whole : (f : Claim → Bool) (xs : List Claim) → ((c : Claim) → Mem c xs → f c ≡ true) → filter f xs ≡ xs
filter-whole f [] each = refl
filter-whole f (x ∷ xs) each =
    ap (λ b. if b then x ∷ filter f xs else filter f xs) (each x (inl refl)) ∙ ap (λ cs. x ∷ cs) (filter-whole f xs (λ c m. each c (inr m)))

eqb-same : (m : ℕ) → (m == m) ≡ true
eqb-same m = go (m == m) refl
  where
    go : (b : Bool) → (m == m) ≡ b → b ≡ true
    go true e = refl
    go false e = absurd (eqb-false m m e refl)

same-number : (m n : ℕ) → m ≡ n → (m == n) ≡ true
same-number m n e = subst (λ (k : ℕ). (m == k) ≡ true) e (eqb-same m)

last-here : (p q : Process) (r : HasSigned p q) → newly_signed p q ≡ drop (length (signed_here q) - length r.more) (signed_here q)
last-here p q r =
    let f : Claim → Bool = λ c. view_of c.statement == q.pool.view.number in
    let view : q.pool.view ≡ p.pool.view = ap (λ (x : Process). x.pool.view) r.rest in
    let mine : filter f r.more ≡ r.more = filter-whole f r.more
    (λ c m. same-number (view_of c.statement) q.pool.view.number
    (All-mem (λ (c : Claim). view_of c.statement ≡ p.pool.view.number) r.more c r.here m ∙ sym (ap (λ v. v.number) view))) in
    let whole : signed_here q ≡ filter f p.signed
    ++ r.more = ap (filter f) r.signed ∙ filter-both f p.signed r.more ∙ ap (λ cs. filter f p.signed ++ cs) mine in
    let long : length (signed_here q) - length r.more
    ≡ length (filter f p.signed) = (let all = ap length whole ∙ length-append (filter f p.signed) r.more in omega (arith, all)) in
    ap (drop (length p.signed)) r.signed ∙ drop_at p.signed r.more (length p.signed) refl
    ∙ sym (ap (λ n. drop n (signed_here q)) long ∙ ap (drop (length (filter f p.signed))) whole ∙ drop_at (filter f p.signed) r.more
    (length (filter f p.signed)) refl)

pub began-so : (s : Setting) (signer : Signer) (left : ℕ) (p : Process) (e : Event) (newly : ℕ)
    → newly ≡ length (drop (length p.signed) (sign_all s signer left (take_in s p e)).now.signed)
    → Began newly p (sign_all s signer left (take_in s p e)).now
began-so s signer left p e newly long =
    let p' : Process = take_in s p e in
    let q : Process = (sign_all s signer left p').now in
    let r : HasSigned p' q = signing_leaves s signer left p' in
    let is = same-so s signer left p e in
    let still = signed-still s p e in
    let many : newly ≡ length r.more = long ∙ ap (λ cs. length (drop (length cs) q.signed))
    (sym still) ∙ ap length (ap (drop (length p'.signed)) r.signed ∙ drop_at p'.signed r.more (length p'.signed) refl) in
    record {
      number = sym is.me;
      delivered = sym is.delivered;
      view = sym is.view;
      signed = ap (λ cs. drop (length cs) q.signed)
          (sym still) ∙ last-here p' q r ∙ ap (λ n. drop (length (signed_here q) - n) (signed_here q)) (sym many);
    }

-- ---- no more is signed than a view has slots

few-so : (s : Setting) (p : Process) (t : Turn) (was st : ProcessState) → IsStateOf s (take_in s p t.event) was
    → IsStateOf s (signing s p t).now st → length (drop (length p.signed) (signing s p t).now.signed) ≤ most_signed
few-so s p t was st before now =
    let p' : Process = take_in s p t.event in
    let lawful = before.lawful in
    let f : FillsSlots p' (signing s p t).now = signing_fills_slots s t.signer t.allowance p' lawful.pool.of_view lawful.own in
    let all : (signing s p t).now.signed ≡ p.signed ++ f.more = f.signed ∙ ap (λ cs. cs ++ f.more) (signed-still s p t.event) in
    let range : All (λ (c : Claim). IsStatement c.statement) f.more = mem-All (λ (c : Claim). IsStatement c.statement) f.more
    (λ c m. (All-mem IsClaim (signing s p t).now.signed c now.lawful.said
    (subst (Mem c) (sym all) (mem-behind p.signed f.more c m))).1) in
    subst (λ (cs : List Claim). length cs ≤ most_signed)
    (sym (ap (drop (length p.signed)) all ∙ drop_at p.signed f.more (length p.signed) refl))
    (slots_are_few p'.pool.view f.more lawful.pool.view f.of_view range f.once)

-- ---- the halves

-- as many were signed as stand in frames
counted-so : (n : ℕ) (xs : List OwnClaim) (ys : List Claim) → n ≡ length xs → map signed xs ≡ map signed_of ys → n ≡ length ys
counted-so n xs ys long same = long ∙ sym (length-map xs signed) ∙ ap length same ∙ length-map ys signed_of

module _ (s : Setting) (p : Process) (t : Turn) (st : ProcessState) (total many : ℕ) (before : List Signed) (none : before ≡ []) where
  -- what signing leaves is told from what was signed before the event
  signed-here-so : (xs : List OwnClaim) (lacks : Bool)
      → IsSigned s (take_in s p t.event) (signing s p t) st total many before (map signed xs) lacks
      → map signed xs ≡ map signed_of (drop (length p.signed) (signing s p t).now.signed)
  signed-here-so xs lacks is =
      is.reported ∙ ap (λ (cs : List Signed). cs ++ map signed_of (drop (length (take_in s p t.event).signed) (signing s p t).now.signed)) none
      ∙ ap (λ (cs : List Claim). map signed_of (drop (length cs) (signing s p t).now.signed)) (signed-still s p t.event)

  pub began-here : (n : ℕ) (xs : List OwnClaim) (lacks : Bool)
      → IsSigned s (take_in s p t.event) (signing s p t) st total many before (map signed xs) lacks → n ≡ length xs
      → Began n p (signing s p t).now
  began-here n xs lacks is long = began-so s t.signer t.allowance p t.event n
      (counted-so n xs (drop (length p.signed) (signing s p t).now.signed) long (signed-here-so xs lacks is))

  pub begun-so : (r : Came) (tick : Bool) (sends : List (List ℕ × List ℕ)) (was : ProcessState) → IsStateOf s (take_in s p t.event) was
      → IsSigned s (take_in s p t.event) (signing s p t) st total many before (map signed r.signed.items) r.spent
      → r.verdict ≡ Taken → r.heard ≡ length (take_in s p t.event).pool.heard - length p.pool.heard → tick ≡ is_tick t.event → sends ≡ []
      → map frame_to r.sends.items ≡ sends
      ++ flat_map frames_to (unless_empty (bundle tick p (signing s p t).now) Bundle (others p p.pool.view)) → map note r.notes.items ≡ []
      → HasBegun s p t st many r
  begun-so r tick sends was before is verdict heard same empty sent reported = record {
    state = is.state;
    used = is.used;
    few = few-so s p t was st before is.state;
    verdict = verdict;
    heard = heard;
    signed_now = signed-here-so r.signed.items r.spent is;
    spent = is.spent;
    sends = sent ∙ (λ i. empty i ++ flat_map frames_to
        (unless_empty (bundle (same i) p (signing s p t).now) Bundle (others p p.pool.view)));
    notes = reported;
  }

-- ---- the outcome

flat-both : {A B : Type 0} (f : A → List B) (xs ys : List A) → flat_map f (xs ++ ys) ≡ flat_map f xs ++ flat_map f ys
flat-both f [] ys = refl
flat-both f (x ∷ xs) ys = ap (λ zs. f x ++ zs) (flat-both f xs ys) ∙ sym (append_assoc (f x) (flat_map f xs) (flat_map f ys))

answered-so : (s : Setting) (p : Process) (t : Turn) (st st' : ProcessState) (many pairs : ℕ) (was r : Came) → pairs ≡ length p.conflicts
    → HasBegun s p t st many was → HasEnded s (signing s p t).now t.event pairs st' was r → IsOutcome (answered s p t (signing s p t)) r
unfolding settle
answered-so s p t st st' many pairs was r first begun ended =
    let one : Signing = signing s p t in
    let q : Process = leave (deliver (decide s one.now)) in
    let same : Same p one.now = same-so s t.signer t.allowance p t.event in
    record {
      verdict = sym (ap verdict-of (ended.verdict ∙ begun.verdict));
      heard = sym (ended.heard ∙ begun.heard);
      signed_now = sym (ap (λ v. map signed v.items) ended.signed_now ∙ begun.signed_now);
      spent = begun.spent ∙ sym ended.spent;
      sends = flat-both frames_to (unless_empty (bundle (is_tick t.event) p one.now) Bundle (others p p.pool.view)) (answers s q t.event)
          ∙ sym (ended.sends ∙ ap (λ fs. fs ++ flat_map frames_to (answers s q t.event)) begun.sends);
      reported = sym (ended.notes ∙ (λ i. begun.notes i
          ++ map (Delivers (same.view i).number) (drop (length (same.delivered i)) (deliver (decide s one.now)).delivered)
          ++ note_if (nat_lt (length (same.left i)) (length q.left)) (Installs q.pool.view)
          ++ liars_from (first i) q.conflicts ++ note_if (sym begun.spent i) Spent ++ halts q));
    }

pub outcome-answered : (s : Setting) (p : Process) (t : Turn) → refusal s p t.event ≡ None → outcome s p t ≡ answered s p t (signing s p t)
outcome-answered s p t none = ap
    (λ (o : Option EventFault). elim o [ None ↦ answered s p t (signing s p t) | Some fault ↦ refusing fault ]) none

pub outcome-refusing : (s : Setting) (p : Process) (t : Turn) (fault : EventFault) → refusal s p t.event ≡ Some fault
    → outcome s p t ≡ refusing fault
outcome-refusing s p t fault some = ap
    (λ (o : Option EventFault). elim o [ None ↦ answered s p t (signing s p t) | Some fault ↦ refusing fault ]) some

outcome-taken : (s : Setting) (p : Process) (t : Turn) (r : Came) → refusal s p t.event ≡ None
    → IsOutcome (answered s p t (signing s p t)) r → IsOutcome (outcome s p t) r
outcome-taken s p t r none is = subst (λ (o : Outcome). IsOutcome o r) (sym (outcome-answered s p t none)) is

outcome-refused : (s : Setting) (p : Process) (t : Turn) (r : Came) (fault : EventFault) → refusal s p t.event ≡ Some fault
    → IsOutcome (refusing fault) r → IsOutcome (outcome s p t) r
outcome-refused s p t r fault some is = subst (λ (o : Outcome). IsOutcome o r) (sym (outcome-refusing s p t fault some)) is

-- ---- the process after the event

after-taken : (s : Setting) (p : Process) (t : Turn) → refusal s p t.event ≡ None → after s p t ≡ settle s (signing s p t).now
unfolding after
after-taken s p t none = ap (λ (o : Option EventFault). elim o [ None ↦ settle s (signing s p t).now | Some fault ↦ p ]) none

pub after-refused : (s : Setting) (p : Process) (t : Turn) (fault : EventFault) → refusal s p t.event ≡ Some fault → after s p t ≡ p
unfolding after
after-refused s p t fault some = ap (λ (o : Option EventFault). elim o [ None ↦ settle s (signing s p t).now | Some fault ↦ p ]) some

-- a turn leaves the process's number
pub after-me : (s : Setting) (p : Process) (t : Turn) → (after s p t).me ≡ p.me
after-me s p t = go (refusal s p t.event) refl
  where
    go : (r : Option EventFault) → refusal s p t.event ≡ r → (after s p t).me ≡ p.me
    go None e = ap (λ (q : Process). q.me) (after-taken s p t e) ∙ (settling_leaves s (signing s p t).now).me
        ∙ (same-so s t.signer t.allowance p t.event).me
    go (Some fault) e = ap (λ (q : Process). q.me) (after-refused s p t fault e)

-- ---- what is signed

-- behind what was signed before
pub signed-more : (s : Setting) (p : Process) (t : Turn) → (after s p t).signed ≡ p.signed ++ (outcome s p t).signed
signed-more s p t = go (refusal s p t.event) refl
  where
    go : (r : Option EventFault) → refusal s p t.event ≡ r → (after s p t).signed ≡ p.signed ++ (outcome s p t).signed
    go None e =
        let now : Process = (signing s p t).now in
        let r : HasSigned (take_in s p t.event) now = signing_leaves s t.signer t.allowance (take_in s p t.event) in
        let all : now.signed ≡ p.signed ++ r.more = r.signed ∙ ap (λ cs. cs ++ r.more) (signed-still s p t.event) in
        let last : drop (length p.signed) now.signed
        ≡ r.more = ap (drop (length p.signed)) all ∙ drop_at p.signed r.more (length p.signed) refl in
        ap (λ (q : Process). q.signed) (after-taken s p t e) ∙ (settling_leaves s now).signed ∙ all ∙ ap (λ cs. p.signed ++ cs)
        (sym (ap (λ (o : Outcome). o.signed) (outcome-answered s p t e) ∙ last))
    go (Some fault) e =
        ap (λ (q : Process). q.signed) (after-refused s p t fault e) ∙ sym (append-nil p.signed) ∙ ap (λ cs. p.signed ++ cs)
        (sym (ap (λ (o : Outcome). o.signed) (outcome-refusing s p t fault e)))

-- ---- the turn

module _ (s : Setting) (p : Process) (t : Turn) where
  -- an event that is taken
  pub taken-so : (st st' : ProcessState) (many pairs : ℕ) (was r : Came) → refusal s p t.event ≡ None → pairs ≡ length p.conflicts
      → HasBegun s p t st many was → HasEnded s (signing s p t).now t.event pairs st' was r → HasTaken s p t st' many r
  taken-so st st' many pairs was r none first begun ended = record {
    state = subst (λ (q : Process). IsStateOf s q st') (sym (after-taken s p t none)) ended.state;
    used = ap (λ (q : Process). length q.signed) (after-taken s p t none)
        ∙ ap length (settling_leaves s (signing s p t).now).signed ∙ begun.used;
    few = subst (λ (o : Outcome). length o.signed ≤ most_signed) (sym (outcome-answered s p t none)) begun.few;
    outcome = outcome-taken s p t r none (answered-so s p t st st' many pairs was r first begun ended);
  }

  -- one that is refused
  pub refused-so : (st : ProcessState) (many : ℕ) (r : Came) (fault : EventFault) → refusal s p t.event ≡ Some fault → IsStateOf s p st
      → length p.signed ≡ many → IsOutcome (refusing fault) r → HasTaken s p t st many r
  refused-so st many r fault some is made came = record {
    state = subst (λ (q : Process). IsStateOf s q st) (sym (after-refused s p t fault some)) is;
    used = ap (λ (q : Process). length q.signed) (after-refused s p t fault some) ∙ made;
    few = subst (λ (o : Outcome). length o.signed ≤ most_signed) (sym (outcome-refusing s p t fault some)) (omega arith);
    outcome = outcome-refused s p t r fault some came;
  }
