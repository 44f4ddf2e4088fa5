-- What the phase tells of a process.
use Rattle.std.proofs.Common.{◌≡◌, ◌∷◌, [], Option, Some, None, Bool, true, false, refl}
use Rattle.std.specs.Prelude.{is_some, not, unwrap_or}
use Rattle.byte_defs.specs.Choices.{first_that_holds}
use Rattle.group_defs.specs.Views.{is_member}
use Rattle.group_defs.specs.Process.{Process}
use Rattle.group_defs.specs.Certified.{is_ended}
use Rattle.group_defs.specs.Settle.{Phase, Observing, OpenView, ClosingView, DecidedView, HaltedView, phase_of}

abbrev named : Bool → Bool → Bool → Bool → Phase
named a b c d = unwrap_or (first_that_holds ((a, HaltedView) ∷ (b, DecidedView) ∷ (c, Observing) ∷ (d, ClosingView) ∷ [])) OpenView

none-there : {A : Type 0} (o : Option A) → is_some o ≡ false → o ≡ None
none-there None e = refl
none-there (Some a) e = absurd cc

-- neither halted nor decided
pub data IsUndecided : Phase → Type 0 where
  observing : IsUndecided Observing
  open_ : IsUndecided OpenView
  closing : IsUndecided ClosingView

pub undecided : (p : Process) (w : Phase) → IsUndecided w → phase_of p ≡ w → (p.halted ≡ false) × (p.decision ≡ None)
undecided p w is e = let both = go p.halted (is_some p.decision) (not (is_member p.pool.view p.me))
    (is_ended p) w is e in (both.0, none-there p.decision both.1)
  where
    go : (a b c d : Bool) (w : Phase) → IsUndecided w → named a b c d ≡ w → (a ≡ false) × (b ≡ false)
    go true b c d Observing observing e = absurd cc
    go true b c d OpenView open_ e = absurd cc
    go true b c d ClosingView closing e = absurd cc
    go true b c d DecidedView is e = elim is [ ]
    go true b c d HaltedView is e = elim is [ ]
    go false true c d Observing observing e = absurd cc
    go false true c d OpenView open_ e = absurd cc
    go false true c d ClosingView closing e = absurd cc
    go false true c d DecidedView is e = elim is [ ]
    go false true c d HaltedView is e = elim is [ ]
    go false false c d w is e = (refl, refl)

pub runs : (p : Process) → phase_of p ≡ DecidedView → p.halted ≡ false
runs p e = go p.halted (is_some p.decision) (not (is_member p.pool.view p.me)) (is_ended p) e
  where
    go : (a b c d : Bool) → named a b c d ≡ DecidedView → a ≡ false
    go true b c d e = absurd cc
    go false b c d e = refl

pub halted : (p : Process) → phase_of p ≡ HaltedView → p.halted ≡ true
halted p e = go p.halted (is_some p.decision) (not (is_member p.pool.view p.me)) (is_ended p) e
  where
    go : (a b c d : Bool) → named a b c d ≡ HaltedView → a ≡ true
    go true b c d e = refl
    go false true c d e = absurd cc
    go false false true d e = absurd cc
    go false false false true e = absurd cc
    go false false false false e = absurd cc
