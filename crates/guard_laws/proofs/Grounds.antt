-- What a guard perceives was handed in, or is grounded on frames that convict; and whom a guard expels.
use Rattle.std.proofs.Common.{◌≡◌, ◌≢◌, ◌⊎◌, inl, inr, ℕ, List, [], ◌∷◌, map, Option, Some, None, Bool, true, false, refl, sym, ap, ◌∙◌, subst}
use Rattle.std.specs.Prelude.{◌&&◌, if◌then◌else◌, not, ◌==◌, IsTrue, All, Contains}
use Rattle.std.proofs.lemmas.Bool.{eq-eqb}
use Rattle.byte_defs.specs.Orders.{put}
use Rattle.message_defs.specs.Updates.{Update, Remove, Add, Renew}
use Rattle.message_defs.specs.Statements.{Claim, Notify}
use Rattle.message_defs.specs.Claims.{Claims, Wants, Faulty}
use Rattle.group_defs.specs.Views.{is_member}
use Rattle.group_defs.specs.Process.{Setting, Process, keyed}
use Rattle.group_defs.specs.Due.{is_perceived}
use Rattle.group_defs.specs.Hearing.{Verdict, Old, Early, Stranger, OutOfWindow, Known, Unsigned, Conflict, Heard, verdict, with_verdict, hear, hear_all}
use Rattle.group_defs.specs.Events.{Event, Submit, Hand, Suspect, Join, RenewView, Tick, Turn, EventFault, perceived_numbers, perceives, refusal, take_in, signing, after, run}
use Rattle.group_defs.specs.Accounts.{Account, account_of, HasCause}
use Rattle.group_defs.specs.Family.{Correct, numbers, end_of, ends, accounts, claims_in, handed, handed_to, statements_of, Honest}
use Rattle.event_laws.proofs.Settled.{settling_leaves}
use Rattle.event_laws.proofs.Signed.{signing_leaves}
use Rattle.conviction_defs.specs.Convictions.{Convicts}
use Rattle.guard_defs.specs.Guarding.{Given, GuardRun, MayAdd, Guard, IsGuarded, shown, shown_behind, turns_of, correct_of, family_of, start_of, update_of, WasHandedIn, RemovesConvicted}
use Rattle.guard_laws.specs.Guards.{ExpelledIsConvicted, NoCorrectIsExpelled, RemovalsAreHandedIn, HasGrounds, ViewsHaveGrounds, end}
use Rattle.conviction_laws.proofs.Convicted.{convicts-more}
use Rattle.guard_laws.proofs.Convicting.{no_correct_is_convicted}
use Rattle.guard_laws.proofs.Evidence.{Fair, after-fair, after-some, shown-convicts}
use Rattle.pool_laws.proofs.Members.{All-mem, Contains-mem, Mem, map-mem, mem-All, mem-Contains, mem-append, mem-behind, mem-flat_map, mem-map}
use Rattle.pool_laws.proofs.Places.{mem-slice_get}
use Rattle.pool_laws.proofs.Tests.{and-first, not-both, some-same}
use Rattle.safety_laws.proofs.EachWasDue.{each_was_due}
use Rattle.safety_laws.proofs.MaySign.{notify-perceived}
use Rattle.safety_laws.proofs.Causes.{causes, perceived-mem}
use Rattle.safety_laws.proofs.Quorums.{me-end_of}
use Rattle.safety_laws.proofs.Settlings.{after-none}

-- ---- what is perceived

mem-put : (e : ℕ × Update) (es : List (ℕ × Update)) (d : ℕ × Update) → Mem d (put perceived_numbers e es) → Mem d es ⊎ (e ≡ d)
mem-put e [] d (inl is) = inr is
mem-put e [] d (inr m) = absurd m
mem-put e (x ∷ xs) d m = go _ m (mem-put e xs d)
  where
    go : (b : Bool) → Mem d (if b then e ∷ x ∷ xs else x ∷ put perceived_numbers e xs)
        → (Mem d (put perceived_numbers e xs) → Mem d xs ⊎ (e ≡ d)) → Mem d (x ∷ xs) ⊎ (e ≡ d)
    go true (inl is) rest = inr is
    go true (inr m) rest = inl m
    go false (inl is) rest = inl (inl is)
    go false (inr m) rest = elim (rest m) [ inl before ↦ inl (inr before) | inr is ↦ inr is ]

-- hearing perceives nothing
hears-one : (p : Process) (c : Claim) (v : Verdict) → (with_verdict v p c).perceived ≡ p.perceived
hears-one p c Heard = refl
hears-one p c Conflict = refl
hears-one p c Old = refl
hears-one p c Early = refl
hears-one p c Stranger = refl
hears-one p c OutOfWindow = refl
hears-one p c Known = refl
hears-one p c Unsigned = refl

heard-perceived : (s : Setting) (cs : List Claim) (p : Process) → (hear_all s p cs).perceived ≡ p.perceived
unfolding hear_all
heard-perceived s [] p = refl
heard-perceived s (c ∷ cs) p = heard-perceived s cs (hear s p c) ∙ hears-one p c (verdict s p c)

-- the event hands in this update, in the view of this number
abbrev Perceives : Process → Event → ℕ × Update → Type 0
Perceives p e d = (update_of e ≡ Some d.1) × (p.pool.view.number ≡ d.0)

asks : (p : Process) (u : Update) (d : ℕ × Update) → Mem d (perceives p u).perceived
    → Mem d p.perceived ⊎ ((p.pool.view.number ≡ d.0) × (u ≡ d.1))
asks p u d m = go (is_perceived p (p.pool.view.number, u)) m
  where
    pair : (p.pool.view.number, u) ≡ d → (p.pool.view.number ≡ d.0) × (u ≡ d.1)
    pair is = (ap (λ (e : ℕ × Update). e.0) is, ap (λ (e : ℕ × Update). e.1) is)

    go : (b : Bool) → let it : Process = if b then p else record p {
      perceived = put perceived_numbers (p.pool.view.number, u) p.perceived;
    } in Mem d it.perceived → Mem d p.perceived ⊎ ((p.pool.view.number ≡ d.0) × (u ≡ d.1))
    go true m = inl m
    go false m = elim (mem-put (p.pool.view.number, u) p.perceived d m) [ inl before ↦ inl before | inr is ↦ inr (pair is) ]

taken : (s : Setting) (p : Process) (e : Event) (d : ℕ × Update) → Mem d (take_in s p e).perceived → Mem d p.perceived ⊎ Perceives p e d
taken s p (Submit payload) d m = inl m
taken s p (Hand at (Claims claims)) d m = inl (subst (Mem d) (heard-perceived s claims p) m)
taken s p (Hand at (Wants x k)) d m = inl m
taken s p (Hand at (Faulty fault)) d m = inl m
taken s p (Suspect q) d m = elim (asks p (Remove q) d m) [ inl before ↦ inl before | inr is ↦ inr (ap Some is.1, is.0) ]
taken s p (Join q) d m = elim (asks p (Add q) d m) [ inl before ↦ inl before | inr is ↦ inr (ap Some is.1, is.0) ]
taken s p RenewView d m = elim (asks p Renew d m) [ inl before ↦ inl before | inr is ↦ inr (ap Some is.1, is.0) ]
taken s p Tick d m = inl m

-- what a turn adds was taken in
abbrev TakenIn : Setting → Process → Turn → ℕ × Update → Type 0
TakenIn s p t d = (refusal s p t.event ≡ None) × Perceives p t.event d

perceived-after : (s : Setting) (p : Process) (t : Turn) (d : ℕ × Update) → Mem d (after s p t).perceived
    → Mem d p.perceived ⊎ TakenIn s p t d
perceived-after s p t d m = go (refusal s p t.event) refl
  where
    go : (o : Option EventFault) → refusal s p t.event ≡ o → Mem d p.perceived ⊎ TakenIn s p t d
    go (Some fault) e = inl (subst (λ (q : Process). Mem d q.perceived) (after-some s p t fault e) m)
    go None e = elim (taken s p t.event d
        (subst (Mem d) (ap (λ (q : Process). q.perceived) (signing_leaves s t.signer t.allowance (take_in s p t.event)).rest)
        (subst (Mem d) (settling_leaves s (signing s p t).now).perceived
        (subst (λ (q : Process). Mem d q.perceived) (after-none s p t e) m)))) [
          | inl before ↦ inl before
          | inr now ↦ inr (e, now)
        ]

-- ---- along a run

module _ (s : Setting) (from : List Claim) (me : ℕ) where
  -- the frames convict each of these, but for the process itself
  abbrev Convicted : List ℕ → Type 0
  Convicted named = (q : ℕ) → Mem q named → q ≢ me → Convicts s from q

  -- the claims of these turns are among those
  abbrev AreOf : List Given → Type 0
  AreOf gs = (c : Claim) → Mem c (handed_to (turns_of gs)) → Mem c from

  head-of : (g : Given) (gs : List Given) → AreOf (g ∷ gs) → (c : Claim) → Mem c (claims_in g.turn.event) → Mem c from
  head-of g gs are c m = are c (mem-append (claims_in g.turn.event) (handed_to (turns_of gs)) c m)

  tail-of : (g : Given) (gs : List Given) → AreOf (g ∷ gs) → AreOf gs
  tail-of g gs are c m = are c (mem-behind (claims_in g.turn.event) (handed_to (turns_of gs)) c m)

  shown-next : (p : Process) (named : List ℕ) (g : Given) → ((c : Claim) → Mem c (claims_in g.turn.event) → Mem c from)
      → Fair s from me p → Convicted named → Convicted (shown_behind s p named g)
  shown-next p named g are fair ok q m other = go g.added m
    where
      go : (b : Bool) → Mem q (if b then named else shown s p g.turn) → Convicts s from q
      go true m = ok q m other
      go false m = shown-convicts s from me p g.turn are fair q m other

  -- a turn that the guard may add suspects one whom the frames convict
  added-convicted : (p : Process) (named : List ℕ) (t : Turn) → Fair s from me p → Convicted named → MayAdd p named t
      → (q : ℕ) × (t.event ≡ Suspect q) × Convicts s from q
  added-convicted p named t fair ok (q, is, m, may) = (
    q,
    is,
    ok q (Contains-mem named q m) (λ same. not-both (q == p.me) (eq-eqb q p.me (same ∙ sym fair.hears.number))
        (and-first (not (q == p.me)) (is_member p.pool.view q)
        (and-first (not (q == p.me) && is_member p.pool.view q) (is_member p.pool.view p.me)
        (and-first (not (q == p.me) && is_member p.pool.view q && is_member p.pool.view p.me)
        (not (is_perceived p (p.pool.view.number, Remove q))) may)))),
  )

  each-added : (gs : List Given) (p : Process) (named : List ℕ) → AreOf gs → Fair s from me p → Convicted named → GuardRun s p named gs
      → (g : Given) → Mem g gs → IsTrue g.added → (q : ℕ) × (g.turn.event ≡ Suspect q) × Convicts s from q
  each-added [] p named are fair ok runs g m added = absurd m
  each-added (h ∷ gs) p named are fair ok runs g (inl is) added = subst
      (λ (g : Given). (q : ℕ) × (g.turn.event ≡ Suspect q) × Convicts s from q) is
      (added-convicted p named h.turn fair ok (runs.0 (subst (λ (g : Given). IsTrue g.added) (sym is) added)))
  each-added (h ∷ gs) p named are fair ok runs g (inr m) added = each-added gs (after s p h.turn) (shown_behind s p named h)
      (tail-of h gs are) (after-fair s from me p h.turn (head-of h gs are) fair) (shown-next p named h (head-of h gs are) fair ok)
      runs.1 g m added

  -- what is perceived at the end was so before, was handed in, or removes one whom the frames convict
  abbrev Grounded : Process → List Given → ℕ × Update → Type 0
  Grounded p gs d = Mem d p.perceived ⊎ (WasHandedIn s p gs d.0 d.1 ⊎ RemovesConvicted s from d.1)

  grounds : (gs : List Given) (p : Process) (named : List ℕ) → AreOf gs → Fair s from me p → Convicted named → GuardRun s p named gs
      → (d : ℕ × Update) → Mem d (run s p (turns_of gs)).perceived → Grounded p gs d
  unfolding run
  grounds [] p named are fair ok runs d m = inl m
  grounds (g ∷ gs) p named are fair ok runs d m = later (grounds gs (after s p g.turn) (shown_behind s p named g)
      (tail-of g gs are) (after-fair s from me p g.turn (head-of g gs are) fair) (shown-next p named g (head-of g gs are) fair ok)
      runs.1 d m)
    where
      here : (b : Bool) → g.added ≡ b → TakenIn s p g.turn d → Grounded p (g ∷ gs) d
      here false e now = inr (inl (inl (e, now.1.0, now.0, now.1.1)))
      here true e now =
          let q = added-convicted p named g.turn fair ok (runs.0 e) in
          inr (inr (q.0, some-same d.1 (Remove q.0) (sym now.1.0 ∙ ap update_of q.1), q.2))

      later : Grounded (after s p g.turn) gs d → Grounded p (g ∷ gs) d
      later (inl perceived) = elim (perceived-after s p g.turn d perceived) [
        | inl before ↦ inl before
        | inr now ↦ here g.added refl now
      ]
      later (inr (inl handed')) = inr (inl (inr handed'))
      later (inr (inr removes)) = inr (inr removes)

-- ---- a guard from its start on

module _ (s : Setting) (g : Guard) (runs : IsGuarded s g) where
  abbrev from : List Claim
  from = handed_to (turns_of g.given)

  fair-start : Fair s from g.me (start_of s g)
  fair-start = record {
    hears = record { number = refl; heard = λ c m. absurd m };
    kept = λ pair m. absurd m;
  }

  none-convicted : Convicted s from g.me []
  none-convicted q m other = absurd m

  guard-adds : (t : Given) → Mem t g.given → IsTrue t.added → (q : ℕ) × (t.turn.event ≡ Suspect q) × Convicts s from q
  guard-adds = each-added s from g.me g.given (start_of s g) [] (λ c m. m) fair-start none-convicted runs

  guard-grounds : (x : ℕ) (u : Update) → Mem (x, u) (end s g).perceived
      → WasHandedIn s (start_of s g) g.given x u ⊎ RemovesConvicted s from u
  guard-grounds x u m = go (grounds s from g.me g.given (start_of s g) [] (λ c m. m) fair-start none-convicted runs (x, u) m)
    where
      go : Grounded s from g.me (start_of s g) g.given (x, u) → WasHandedIn s (start_of s g) g.given x u ⊎ RemovesConvicted s from u
      go (inl m) = absurd m
      go (inr is) = is

pub expelled_is_convicted : ExpelledIsConvicted
expelled_is_convicted s g runs = mem-All
    (λ (t : Given). IsTrue t.added → (q : ℕ) × (t.turn.event ≡ Suspect q) × Convicts s (handed_to (turns_of g.given)) q) g.given
    (guard-adds s g runs)

-- ---- families

-- what one guard was handed, the family was
handed-wide : (s : Setting) (guards : List Guard) (g : Guard) → Mem g guards → (c : Claim) → Mem c (handed_to (turns_of g.given))
    → Mem c (handed (family_of s guards))
handed-wide s guards g m c there = mem-flat_map (λ (c : Correct). handed_to c.turns) (map correct_of guards) (correct_of g) c
    (mem-map correct_of guards g m) there

-- no correct process is convicted by what a guard was handed
others : (s : Setting) (guards : List Guard) → Honest (family_of s guards) → (g : Guard) → Mem g guards → (q : ℕ)
    → Convicts s (handed_to (turns_of g.given)) q → (h : Guard) → Mem h guards → h.me ≢ q
others s guards honest g m q convicts h n = All-mem (λ p. p ≢ q) (numbers (family_of s guards)) h.me
    (no_correct_is_convicted (family_of s guards) q honest
    (convicts-more s (handed_to (turns_of g.given)) (handed (family_of s guards)) q (handed-wide s guards g m) convicts))
    (mem-map (λ (c : Correct). c.me) (map correct_of guards) (correct_of h) (mem-map correct_of guards h n))

pub no_correct_is_expelled : NoCorrectIsExpelled
no_correct_is_expelled s guards honest runs = mem-All
    (λ (g : Guard). All (λ (t : Given). IsTrue t.added → (q : ℕ) × (t.turn.event ≡ Suspect q) × All (λ (h : Guard). h.me ≢ q) guards)
    g.given) guards (λ g m. mem-All
    (λ (t : Given). IsTrue t.added → (q : ℕ) × (t.turn.event ≡ Suspect q) × All (λ (h : Guard). h.me ≢ q) guards) g.given
    (λ t there added. let q = guard-adds s g (All-mem (IsGuarded s) guards g runs m) t there added in (
      q.0,
      q.1,
      mem-All (λ (h : Guard). h.me ≢ q.0) guards (others s guards honest g m q.0 q.2),
    )))

pub removals_are_handed_in : RemovalsAreHandedIn
removals_are_handed_in s guards honest runs = mem-All
    (λ (g : Guard). All (λ (h : Guard). (x : ℕ) → Contains (statements_of (end s g)) (Notify x (Remove h.me))
    → WasHandedIn s (start_of s g) g.given x (Remove h.me)) guards) guards (λ g m. mem-All
    (λ (h : Guard). (x : ℕ) → Contains (statements_of (end s g)) (Notify x (Remove h.me))
    → WasHandedIn s (start_of s g) g.given x (Remove h.me)) guards (λ h n x signed. of g m h n x signed))
  where
    removed : (p q : ℕ) → Remove p ≡ Remove q → p ≡ q
    removed p q e = cc

    grounded : (g : Guard) → Mem g guards → (h : Guard) → Mem h guards → (x : ℕ)
        → WasHandedIn s (start_of s g) g.given x (Remove h.me) ⊎ RemovesConvicted s (handed_to (turns_of g.given)) (Remove h.me)
        → WasHandedIn s (start_of s g) g.given x (Remove h.me)
    grounded g m h n x (inl there) = there
    grounded g m h n x (inr removes) = absurd (others s guards honest g m removes.0 removes.2 h n (removed h.me removes.0 removes.1))

    of : (g : Guard) → Mem g guards → (h : Guard) → Mem h guards → (x : ℕ) → Contains (statements_of (end s g)) (Notify x (Remove h.me))
        → WasHandedIn s (start_of s g) g.given x (Remove h.me)
    of g m h n x signed =
        let at = mem-slice_get (statements_of (end s g)) (Notify x (Remove h.me)) (Contains-mem (statements_of (end s g)) _ signed) in
        let was = each_was_due s g.me g.batch_limit (turns_of g.given) at.0 (Notify x (Remove h.me)) at.1 in
        let perceived = perceived-mem was.moment (x, Remove h.me) (notify-perceived s was.moment x (Remove h.me) was.due) in
        let now : Mem (x, Remove h.me) (end s g).perceived = Contains-mem (end s g).perceived (x, Remove h.me)
        (All-mem (Contains (end s g).perceived) was.moment.perceived (x, Remove h.me) was.grown.perceived perceived) in
        grounded g m h n x (guard-grounds s g (All-mem (IsGuarded s) guards g runs m) x (Remove h.me) now)

pub views_have_grounds : ViewsHaveGrounds
views_have_grounds s guards x v w premises runs at at' = go (causes (family_of s guards) premises x v w at at')
  where
    go : HasCause (accounts (family_of s guards)) (keyed s) v w → HasGrounds s guards v w
    go cause =
        let a = map-mem account_of (ends (family_of s guards)) cause.by
        (Contains-mem (accounts (family_of s guards)) cause.by cause.correct) in
        let c = map-mem (end_of s) (map correct_of guards) a.0 a.1 in
        let g = map-mem correct_of guards c.0 c.1 in
        let is : account_of (end s g.0) ≡ cause.by = ap (λ (c : Correct). account_of (end_of s c)) g.2 ∙ ap account_of c.2 ∙ a.2 in
        let perceived : Contains (end s g.0).perceived (v.number, cause.update) = subst
        (λ (a : Account). Contains a.perceived (v.number, cause.update)) (sym is) cause.perceived in
        let me : g.0.me ≡ cause.by.me = sym (me-end_of s (correct_of g.0)) ∙ ap (λ (a : Account). a.me) is in
        record {
          update = cause.update;
          possible = cause.possible;
          next = cause.next;
          by = g.0;
          correct = mem-Contains guards g.0 g.1;
          member = subst (λ me. is_member v me ≡ true) (sym me) cause.member;
          perceived = perceived;
          grounds = guard-grounds s g.0 (All-mem (IsGuarded s) guards g.0 runs g.1) v.number cause.update
              (Contains-mem (end s g.0).perceived (v.number, cause.update) perceived);
        }
