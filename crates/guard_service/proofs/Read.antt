-- The words of a guard's line.
use Rattle.std.proofs.Common.{arith, ◌≡◌, ℕ, ◌==◌, true, false, List, [], ◌∷◌, length, None, refl}
use Rattle.std.proofs.lemmas.Bool.{eqb-true}
use Rattle.guard_defs.specs.Lines.{accused_by}

pub ended : (word named : List ℕ) (rest : List (List ℕ)) → (length rest == 0) ≡ true
    → accused_by (word ∷ named ∷ rest) ≡ accused_by (word ∷ named ∷ [])
ended word named [] e = refl
ended word named (r ∷ rs) e = absurd (omega (arith, eqb-true (length (r ∷ rs)) 0 e))

pub longer : (word named : List ℕ) (rest : List (List ℕ)) → (length rest == 0) ≡ false → accused_by (word ∷ named ∷ rest) ≡ None
longer word named [] e = absurd cc
longer word named (r ∷ rs) e = refl
