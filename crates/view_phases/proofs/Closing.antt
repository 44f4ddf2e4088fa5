-- Behind the own End the view is closing.
use Rattle.std.proofs.Common.{◌≡◌, ℕ, List, [], ◌∷◌, ◌++◌, Bool, true, false, Option, Some, None, refl, sym, ◌∙◌, ap, subst}
use Rattle.std.specs.Prelude.{is_some, not, unwrap_or, option_map, if◌then◌else◌, ◌&&◌, ◌==◌}
use Rattle.std.specs.Option.{option_or}
use Rattle.std.proofs.lemmas.Bool.{eq-eqb}
use Rattle.std.proofs.lemmas.List.Folds.{find-append}
use Rattle.byte_defs.specs.Choices.{first_that_holds}
use Rattle.message_defs.specs.Updates.{Value}
use Rattle.message_defs.specs.Statements.{Slot, Claim, EndAt, End, slot_of, same_slot}
use Rattle.group_defs.specs.Views.{is_member}
use Rattle.group_defs.specs.Process.{Setting, Process}
use Rattle.group_defs.specs.Certified.{claim_on, own_on, is_ended}
use Rattle.group_defs.specs.Signing.{Signer, own_claim, signs}
use Rattle.group_defs.specs.Settle.{Phase, Observing, OpenView, ClosingView, DecidedView, HaltedView, phase_of}
use Rattle.multicast_rules.proofs.Slots.{is-same_slot}

-- the process of an open view is a member that has neither ended nor decided it
open-tests : (a b c d : Bool) → unwrap_or
    (first_that_holds ((a, HaltedView) ∷ (b, DecidedView) ∷ (c, Observing) ∷ (d, ClosingView) ∷ [])) OpenView ≡ OpenView
    → (a ≡ false) × (b ≡ false) × (c ≡ false) × (d ≡ false)
open-tests true b c d e = absurd cc
open-tests false true c d e = absurd cc
open-tests false false true d e = absurd cc
open-tests false false false true e = absurd cc
open-tests false false false false e = (refl, refl, refl, refl)

closing : (a b c d : Bool) → a ≡ false → b ≡ false → c ≡ false → d ≡ true
    → unwrap_or (first_that_holds ((a, HaltedView) ∷ (b, DecidedView) ∷ (c, Observing) ∷ (d, ClosingView) ∷ [])) OpenView ≡ ClosingView
closing a b c d a_is b_is c_is d_is =
    (λ i. unwrap_or (first_that_holds
    ((a_is i, HaltedView) ∷ (b_is i, DecidedView) ∷ (c_is i, Observing) ∷ (d_is i, ClosingView) ∷ [])) OpenView)

none-mapped : {A B : Type 0} (f : A → B) (o : Option A) → is_some (option_map f o) ≡ false → o ≡ None
none-mapped f None e = refl
none-mapped f (Some a) e = absurd cc

-- the first claim on the slot, where there was none
pub signed-now : (cs : List Claim) (c : Claim) (p : ℕ) (s : Slot) → claim_on cs p s ≡ None → c.signer ≡ p → slot_of c.statement ≡ s
    → claim_on (cs ++ c ∷ []) p s ≡ Some c
signed-now cs c p s none signer at = find-append test cs (c ∷ []) ∙ (λ i. option_or (none i) (if its i then Some c else None))
  where
    test : Claim → Bool
    test d = (d.signer == p) && same_slot (slot_of d.statement) s

    its : test c ≡ true
    its = (λ i. eq-eqb c.signer p signer i && is-same_slot (slot_of c.statement) s at i)

pub own-now : (s : Setting) (signer : Signer) (p : Process) (length : ℕ) → phase_of p ≡ OpenView
    → own_on (signs s signer p (End p.pool.view.number length)) (EndAt p.pool.view.number) ≡ Some (End p.pool.view.number length)
own-now s signer p length was =
    let no = open-tests p.halted (is_some p.decision) (not (is_member p.pool.view p.me)) (is_ended p) was in
    let none = none-mapped (λ (c : Claim). c.statement) (claim_on p.signed p.me (EndAt p.pool.view.number)) no.3 in
    let c : Claim = own_claim s signer p (End p.pool.view.number length) in
    ap (option_map (λ (d : Claim). d.statement)) (signed-now p.signed c p.me (EndAt p.pool.view.number) none refl refl)

pub closes : (s : Setting) (signer : Signer) (p : Process) (length : ℕ) → phase_of p ≡ OpenView
    → phase_of (signs s signer p (End p.pool.view.number length)) ≡ ClosingView
closes s signer p length was =
    let no = open-tests p.halted (is_some p.decision) (not (is_member p.pool.view p.me)) (is_ended p) was in
    let q : Process = signs s signer p (End p.pool.view.number length) in
    closing p.halted (is_some p.decision) (not (is_member p.pool.view p.me))
    (is_ended q) no.0 no.1 no.2 (ap is_some (own-now s signer p length was))
