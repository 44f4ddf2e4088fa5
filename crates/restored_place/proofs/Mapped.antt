-- A list that is made entry by entry.
use Rattle.std.proofs.Common.{◌≡◌, ℕ, ◌+◌, ◌<◌, List, [], ◌∷◌, ◌++◌, length, map, take, sym, ap, ◌∙◌}
use Rattle.std.specs.Prelude.{slice_index_or}
use Rattle.std.proofs.lemmas.List.{map-append, take_more}

-- one entry more
pub map-more : (f : ℕ → ℕ) (xs : List ℕ) (i y : ℕ) (ys zs : List ℕ) → i < length xs → y ≡ slice_index_or xs i y → ys ≡ map f (take i xs)
    → zs ≡ ys ++ f y ∷ [] → zs ≡ map f (take (i + 1) xs)
map-more f xs i y ys zs lt is so put =
    put ∙ ap (λ (ls : List ℕ). ls ++ f y ∷ []) so ∙ sym (map-append f (take i xs) (y ∷ []))
    ∙ sym (ap (map f) (take_more xs i y lt ∙ ap (λ (z : ℕ). take i xs ++ z ∷ []) (sym is)))
