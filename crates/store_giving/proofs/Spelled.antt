-- The bytes of a state are the spelling of a store.
use Rattle.std.proofs.Common.{◌≡◌, ℕ, List, refl, sym, ap, ◌∙◌, Ok, Err}
use Rattle.std.specs.Prelude.{is_ok, IsTrue}
use Rattle.store_defs.specs.Laws.{AreBytes}
use Rattle.store_defs.specs.Stores.{IsStore, Reading, Store, store_bytes, store_of}
use Rattle.store_giving.specs.States.{IsSpelled}
use Rattle.store_laws.proofs.Grammar.{store_is_read, store_is_spelled}
use Rattle.store_laws.proofs.Tests.{false-true}

-- what spells a store within its limits is read as one
pub spelling-read : (bytes : List ℕ) (t : Store) → IsStore t → bytes ≡ store_bytes t → IsTrue (is_ok (store_of bytes))
spelling-read bytes t is spelled =
    ap (λ (b : List ℕ). is_ok (store_of b)) spelled ∙ ap (λ (r : Reading Store). is_ok r) (store_is_read t is)

-- what is read as a store is spelled so
pub read-spelling : (bytes : List ℕ) → AreBytes bytes → IsTrue (is_ok (store_of bytes)) → IsSpelled bytes
read-spelling bytes fits read = go (store_of bytes) refl read
  where
    go : (r : Reading Store) → r ≡ store_of bytes → IsTrue (is_ok r) → IsSpelled bytes
    go (Ok t) is ok = let both = store_is_spelled bytes t fits (sym is) in (t, both.1, both.0)
    go (Err fault) is ok = absurd (false-true refl ok)
