-- Pieces written one after another, as loops do.
use Rattle.std.proofs.Common.{◌≡◌, ℕ, ◌+◌, ◌<◌, List, [], ◌∷◌, ◌++◌, length, get_or, take, map, ap, sym, ◌∙◌, append_assoc}
use Rattle.std.specs.List.{flat_map}
use Rattle.std.proofs.lemmas.List.{flat_map_more, map-append, take_more}

map_more : {X Y : Type 0} (f : X → Y) (xs : List X) (i : ℕ) (d : X) → i < length xs
    → map f (take (i + 1) xs) ≡ map f (take i xs) ++ f (get_or xs i d) ∷ []
map_more f xs i d within = ap (map f) (take_more xs i d within) ∙ map-append f (take i xs) (get_or xs i d ∷ [])

-- a piece for each element
pub piece_more : {X Y : Type 0} (piece : Y → List ℕ) (f : X → Y) (out : List ℕ) (xs : List X) (i : ℕ) (d : X) → i < length xs
    → (out ++ flat_map piece (map f (take i xs))) ++ piece (f (get_or xs i d)) ≡ out ++ flat_map piece (map f (take (i + 1) xs))
piece_more piece f out xs i d within =
    flat_map_more piece out (map f (take i xs)) (f (get_or xs i d)) ∙ ap (λ ys. out ++ flat_map piece ys) (sym (map_more f xs i d within))

-- one number more
pub number_more : (out xs : List ℕ) (i d : ℕ) → i < length xs → (out ++ take i xs) ++ get_or xs i d ∷ [] ≡ out ++ take (i + 1) xs
number_more out xs i d within = append_assoc out (take i xs) (get_or xs i d ∷ []) ∙ ap (λ ys. out ++ ys) (sym (take_more xs i d within))

-- the fields of a header, as they are appended
pub header_joined : (out m l g roster : List ℕ) (s : ℕ)
    → ((out ++ (m ++ (s ∷ l))) ++ g) ++ roster ≡ out ++ (m ++ (s ∷ (l ++ (g ++ roster))))
header_joined out m l g roster s =
    append_assoc (out ++ (m ++ (s ∷ l))) g roster
    ∙ append_assoc out (m ++ (s ∷ l)) (g ++ roster)
    ∙ ap (λ t. out ++ t) (append_assoc m (s ∷ l) (g ++ roster))
