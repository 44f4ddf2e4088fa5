-- Which slots of these processes have own words.
use Rattle.std.specs.Prelude.{ℕ, ◌==◌, ◌||◌, not, Bool, List}
use Rattle.std.specs.List.{list_any}
use Rattle.claim_index.specs.declared.key.Key.{Key}
use Rattle.claim_index.specs.Keys.{same_key}

-- the process is one of these
abbrev pub is_listed : List ℕ → ℕ → Bool
is_listed listed p = list_any (λ q. q == p) listed

-- the slot is not one of theirs, or among those that are answered
abbrev pub is_answered : List ℕ → List Key → Key → Bool
is_answered listed answered k = not (is_listed listed k.signer) || list_any (same_key k) answered
