-- How signing one statement changes the phase: an End closes an open view, and another statement leaves the phase as it is.
use Rattle.std.proofs.Common.{◌≡◌, ℕ, [], ◌∷◌, Bool, true, false, Option, Some, None, refl, sym, ◌∙◌, ap, subst}
use Rattle.std.specs.Prelude.{is_some, not, unwrap_or, option_map, if◌then◌else◌, ◌&&◌, ◌==◌}
use Rattle.std.specs.Option.{option_or}
use Rattle.std.proofs.lemmas.List.Folds.{find-append}
use Rattle.byte_defs.specs.Choices.{first_that_holds}
use Rattle.message_defs.specs.Statements.{Statement, Slot, Claim, EndAt, End, slot_of, same_slot}
use Rattle.group_defs.specs.Views.{is_member}
use Rattle.group_defs.specs.Process.{Setting, Process}
use Rattle.group_defs.specs.Certified.{claim_on, own_on, is_ended}
use Rattle.group_defs.specs.Due.{may_sign}
use Rattle.group_defs.specs.Signing.{Signer, own_claim, signs}
use Rattle.group_defs.specs.Settle.{Phase, Observing, OpenView, ClosingView, DecidedView, HaltedView, phase_of}
use Rattle.pool_laws.proofs.Slots.{same_slot-is}
use Rattle.rule_laws.proofs.Signable.{may-parts}
use Rattle.own_place.specs.Noting.{is_end}

-- the phase by its four tests: halted, decided, no member, ended
phase_by : Bool → Bool → Bool → Bool → Phase
phase_by a b c d = unwrap_or (first_that_holds ((a, HaltedView) ∷ (b, DecidedView) ∷ (c, Observing) ∷ (d, ClosingView) ∷ [])) OpenView

-- a phase before the decision
abbrev pub Precedes : Phase → Type 0
Precedes Observing = Unit {0}
Precedes OpenView = Unit {0}
Precedes ClosingView = Unit {0}
Precedes DecidedView = ⊥
Precedes HaltedView = ⊥

preceding : (a b c d : Bool) → Precedes (phase_by a b c d) → b ≡ false
unfolding phase_by
preceding true b c d before = absurd before
preceding false true c d before = absurd before
preceding false false c d before = refl

none-where : {A : Type 0} (o : Option A) → is_some o ≡ false → o ≡ None
none-where None e = refl
none-where (Some a) e = absurd cc

-- before the decision there is none
pub undecided : (p : Process) → Precedes (phase_of p) → p.decision ≡ None
unfolding phase_by
undecided p before = none-where p.decision (preceding p.halted (is_some p.decision) (not (is_member p.pool.view p.me)) (is_ended p) before)

no-member : (a b c d : Bool) → phase_by a b c d ≡ Observing → c ≡ true
unfolding phase_by
no-member true b c d e = absurd cc
no-member false true c d e = absurd cc
no-member false false true d e = refl
no-member false false false true e = absurd cc
no-member false false false false e = absurd cc

ended-then : (a b c d : Bool) → phase_by a b c d ≡ ClosingView → d ≡ true
unfolding phase_by
ended-then true b c d e = absurd cc
ended-then false true c d e = absurd cc
ended-then false false true d e = absurd cc
ended-then false false false true e = refl
ended-then false false false false e = absurd cc

-- who observes signs nothing
pub observer-signs-none : (s : Setting) (p : Process) (st : Statement) → phase_of p ≡ Observing → may_sign s p st ≡ true → ⊥
unfolding phase_by
observer-signs-none s p st e may =
    let out = no-member p.halted (is_some p.decision) (not (is_member p.pool.view p.me)) (is_ended p) e in
    let within = (may-parts s p st may).member in
    let wrong : not true ≡ true = ap not (sym within) ∙ out in cc

-- behind the own End no other is signed
pub one-end : (s : Setting) (p : Process) (x k : ℕ) → phase_of p ≡ ClosingView → may_sign s p (End x k) ≡ true → ⊥
unfolding phase_by
one-end s p x k e may =
    let ended = ended-then p.halted (is_some p.decision) (not (is_member p.pool.view p.me)) (is_ended p) e in
    let parts = may-parts s p (End x k) may in
    let unsigned : is_some (own_on p (EndAt p.pool.view.number))
    ≡ false = subst (λ x. is_some (own_on p (EndAt x)) ≡ false) parts.current parts.unsigned in
    cc

-- ---- another statement

unlike : (a b : Slot) → (a ≡ b → ⊥) → same_slot a b ≡ false
unlike a b differ = go (same_slot a b) refl
  where
    go : (t : Bool) → same_slot a b ≡ t → t ≡ false
    go true e = absurd (differ (same_slot-is a b e))
    go false e = refl

other-slot : (st : Statement) (x : ℕ) → is_end st ≡ false → same_slot (slot_of st) (EndAt x) ≡ false
other-slot (End y k) x e = absurd cc
other-slot st x e = unlike (slot_of st) (EndAt x) (λ is. cc)

module _ (s : Setting) (signer : Signer) (p : Process) (st : Statement) (other : is_end st ≡ false) where
  abbrev q : Process
  q = signs s signer p st

  -- the own End, if there is one, stays
  pub end-kept : own_on q (EndAt p.pool.view.number) ≡ own_on p (EndAt p.pool.view.number)
  end-kept =
      ap (option_map (λ (c : Claim). c.statement))
      (find-append test p.signed (c ∷ []) ∙ ap
      (λ b. option_or (claim_on p.signed p.me (EndAt p.pool.view.number)) (if (p.me == p.me) && b then Some c else None))
      (other-slot st p.pool.view.number other) ∙ go (p.me == p.me) (claim_on p.signed p.me (EndAt p.pool.view.number)))
    where
      c : Claim
      c = own_claim s signer p st

      test : Claim → Bool
      test d = (d.signer == p.me) && same_slot (slot_of d.statement) (EndAt p.pool.view.number)

      go : (b : Bool) (o : Option Claim) → option_or o (if b && false then Some c else None) ≡ o
      go true None = refl
      go true (Some a) = refl
      go false None = refl
      go false (Some a) = refl

  -- and so does the phase
  pub phase-kept : phase_of q ≡ phase_of p
  unfolding phase_by
  phase-kept = ap (λ (o : Option Statement). phase_by p.halted (is_some p.decision) (not (is_member p.pool.view p.me)) (is_some o)) end-kept
