-- A list that grows at its end.
use Rattle.std.proofs.Common.{◌≡◌, List, [], ◌∷◌, ◌++◌, length, drop, refl, sym, ap, ◌∙◌}
use Rattle.std.proofs.lemmas.List.{append-nil}
use Rattle.std.proofs.Common.{append_assoc}

-- behind the front stands the rest
pub behind : {A : Type 0} (xs more : List A) → drop (length xs) (xs ++ more) ≡ more
behind [] more = refl
behind (x ∷ xs) more = behind xs more

-- the rest of a list that has this front
pub rest-is : {A : Type 0} (xs more ys : List A) → ys ≡ xs ++ more → drop (length xs) ys ≡ more
rest-is xs more ys e = ap (drop (length xs)) e ∙ behind xs more

-- it has itself as a front, with nothing behind it
pub rest-of : {A : Type 0} (xs : List A) → drop (length xs) xs ≡ []
rest-of xs = rest-is xs [] xs (sym (append-nil xs))

-- what grew twice grew by both
pub grew-twice : {A : Type 0} (xs ys zs : List A) → xs ++ drop (length xs) ys ≡ ys → ys ++ drop (length ys) zs ≡ zs
    → drop (length xs) zs ≡ drop (length xs) ys ++ drop (length ys) zs
grew-twice xs ys zs e f = rest-is xs _ zs (sym f ∙ ap (λ front. front ++ drop (length ys) zs) (sym e) ∙ append_assoc xs _ _)

pub grown-twice : {A : Type 0} (xs ys zs : List A) → xs ++ drop (length xs) ys ≡ ys → ys ++ drop (length ys) zs ≡ zs
    → xs ++ drop (length xs) zs ≡ zs
grown-twice xs ys zs e f = ap (λ rest. xs ++ rest)
    (grew-twice xs ys zs e f) ∙ sym (append_assoc xs _ _) ∙ ap (λ front. front ++ drop (length ys) zs) e ∙ f
