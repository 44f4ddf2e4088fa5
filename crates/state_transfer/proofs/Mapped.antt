-- A list is gone through element by element.
use Rattle.std.proofs.Common.{◌≡◌, ℕ, suc, ◌+◌, ◌<◌, List, ◌∷◌, length, drop, get_or, sym, ◌∙◌, add-one, drop-cons}

-- the element at a place, and those after it
pub from-place : {A : Type 0} (xs : List A) (i : ℕ) (x : A) → i < length xs → x ≡ get_or xs i x → drop i xs ≡ x ∷ drop (i + 1) xs
from-place {A} xs i x lt is =
    let one : get_or xs i x ∷ drop (suc i) xs ≡ x ∷ drop (i + 1) xs = λ j. sym is j ∷ drop (sym (add-one i) j) xs in
    drop-cons xs i x lt ∙ one
