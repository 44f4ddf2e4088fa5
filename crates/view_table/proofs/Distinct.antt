-- A list read from the front, in which no element stands twice.
use Rattle.std.proofs.Common.{◌≡◌, ◌≢◌, ℕ, ◌+◌, ◌<◌, ◌≤◌, List, length, take, get_or, AllPairs, false, sym, ◌∙◌, subst, arith}
use Rattle.std.specs.Prelude.{nat_eq}
use Rattle.std.proofs.lemmas.Bool.{eqb-false}
use Rattle.std.proofs.lemmas.List.{take_more, take_all}
use Rattle.std.proofs.lemmas.List.Quantifiers.{all_pairs_push}

-- one more, which is none of those before it
pub one_more : (xs : List ℕ) (i x : ℕ) → i < length xs → x ≡ get_or xs i x → AllPairs (λ m n. m ≢ n) (take i xs)
    → ((k : ℕ) (d : ℕ) → 0 ≤ k → k < length (take i xs) → nat_eq (get_or (take i xs) k d) x ≡ false)
    → AllPairs (λ m n. m ≢ n) (take (i + 1) xs)
one_more xs i x lt is before differs =
    subst (λ ys. AllPairs (λ m n. m ≢ n) ys) (sym (take_more xs i x lt))
    (all_pairs_push (λ m n. m ≢ n) (take i xs)
    (get_or xs i x) before (λ k d within e. eqb-false _ _ (differs k d (omega arith) within) (e ∙ sym is)))

-- to the end
pub all_of : (xs : List ℕ) (i : ℕ) → length xs ≤ i → AllPairs (λ m n. m ≢ n) (take i xs) → AllPairs (λ m n. m ≢ n) xs
all_of xs i le so_far = subst (λ ys. AllPairs (λ m n. m ≢ n) ys) (take_all i xs le) so_far
