-- A signer's pair is sought place by place.
use Rattle.std.proofs.Common.{◌≡◌, ℕ, zero, suc, ◌≤◌, ◌<◌, List, [], ◌∷◌, length, drop, Option, Some, None, Bool, true, false, refl, ◌∙◌, arith, slice_get, ap}
use Rattle.std.specs.Prelude.{◌==◌, if◌then◌else◌}
use Rattle.message_defs.specs.Statements.{Claim}
use Rattle.member_state.specs.States.{kept_of}

-- the pair at this place is another's, so it is sought among those after it
pub passed : (q : ℕ) (pairs : List (Claim × Claim)) (i : ℕ) (pair : Claim × Claim) → slice_get pairs i ≡ Some pair
    → (pair.0.signer == q) ≡ false → kept_of q (drop i pairs) ≡ kept_of q (drop (suc i) pairs)
passed q [] i pair e other = absurd cc
passed q (x ∷ xs) zero pair e other = go (x.0.signer == q) (ap (λ (p : Option (Claim × Claim)). elim p [ None ↦ false | Some y ↦ y.0.signer == q ]) e ∙ other)
  where
    go : (b : Bool) → b ≡ false → (if b then Some x else kept_of q xs) ≡ kept_of q xs
    go true e = absurd cc
    go false e = refl
passed q (x ∷ xs) (suc i) pair e other = passed q xs i pair e other

-- it is the one
pub found : (q : ℕ) (pairs : List (Claim × Claim)) (i : ℕ) (pair : Claim × Claim) → slice_get pairs i ≡ Some pair
    → (pair.0.signer == q) ≡ true → kept_of q (drop i pairs) ≡ Some pair
found q [] i pair e same = absurd cc
found q (x ∷ xs) zero pair e same = go (x.0.signer == q) (ap (λ (p : Option (Claim × Claim)). elim p [ None ↦ false | Some y ↦ y.0.signer == q ]) e ∙ same) ∙ e
  where
    go : (b : Bool) → b ≡ true → (if b then Some x else kept_of q xs) ≡ Some x
    go true e = refl
    go false e = absurd cc
found q (x ∷ xs) (suc i) pair e same = found q xs i pair e same

-- after the last there is none
pub ended : (q : ℕ) (pairs : List (Claim × Claim)) (i : ℕ) → length pairs ≤ i → kept_of q (drop i pairs) ≡ None
ended q [] zero past = refl
ended q [] (suc i) past = refl
ended q (x ∷ xs) zero past = absurd (omega (arith, past))
ended q (x ∷ xs) (suc i) past = ended q xs i (omega (arith, past))

-- below the length there is a pair
pub absent : (pairs : List (Claim × Claim)) (i : ℕ) → slice_get pairs i ≡ None → i < length pairs → ⊥
absent [] i e lt = omega (arith, lt)
absent (x ∷ xs) zero e lt = absurd cc
absent (x ∷ xs) (suc i) e lt = absent xs i e (omega (arith, lt))
