-- Bytes among the keys of a set.
use Rattle.std.specs.Prelude.{ℕ, Bool, List, [], ◌∷◌}
use Rattle.std.specs.List.{list_any}
use Rattle.std.specs.Str.{bytes_eq}
use Rattle.indexmap.specs.IndexSet.{IndexSet}

-- these bytes are one of the keys
abbrev pub is_among : {S : Type 0} → List ℕ → IndexSet (List ℕ) S → Bool
is_among x s = list_any (bytes_eq x) s.keys

-- what a hash table is given of a key: its bytes, in one piece
abbrev pub in_one_piece : List ℕ → List (List ℕ)
in_one_piece bytes = bytes ∷ []
