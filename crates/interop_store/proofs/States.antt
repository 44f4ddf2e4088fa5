-- A store's spelling is read as this store.
use Rattle.std.proofs.Common.{◌≡◌, ℕ, List, Ok, Err, sym, ap, ◌∙◌}
use Rattle.store_defs.specs.Stores.{IsStore, Store, store_bytes, store_of}
use Rattle.store_laws.proofs.Grammar.{store_is_read}
use Rattle.store_laws.proofs.Staying.{done}

-- what is read of it is spelled so again
pub again : (state : List ℕ) (found : Store) → (s : Store) × IsStore s × (state ≡ store_bytes s) → store_of state ≡ Ok found
    → store_bytes found ≡ state
again state found spelled read =
    let both : done spelled.0 ≡ done found = sym (ap store_of spelled.2 ∙ store_is_read spelled.0 spelled.1) ∙ read in
    let same : spelled.0 ≡ found = cc in
    sym (spelled.2 ∙ ap store_bytes same)

-- and it is read
pub not-none : (state : List ℕ) → (s : Store) × IsStore s × (state ≡ store_bytes s) → store_of state ≡ Err tt → ⊥
not-none state spelled read =
    let both : done spelled.0 ≡ Err tt = sym (ap store_of spelled.2 ∙ store_is_read spelled.0 spelled.1) ∙ read in
    cc
