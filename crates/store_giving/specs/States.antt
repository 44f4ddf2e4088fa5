-- The bytes of a state.
use Rattle.std.specs.Prelude.{◌≡◌, ℕ, List}
use Rattle.store_defs.specs.Stores.{Store, IsStore, store_bytes}

-- these bytes are the spelling of a store within its limits
abbrev pub IsSpelled : List ℕ → Type 0
IsSpelled bytes = (t : Store) × IsStore t × (bytes ≡ store_bytes t)
