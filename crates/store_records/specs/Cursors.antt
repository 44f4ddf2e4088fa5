-- What is left of a store's spelling, and how a cursor goes over it.
use Rattle.std.specs.Prelude.{◌≡◌, ℕ, suc, not, nat_lt, List, [], ◌∷◌, length, Option, Some, None, Result, Ok, Err}
use Rattle.byte_defs.specs.Fields.{◌>>=◌, refuse_if}
use Rattle.byte_defs.specs.Orders.{numbers_below}
use Rattle.store_defs.specs.Stores.{Pair, Store, Reading, key_at, value_at, pairs_at}
use Rattle.store_records.specs.declared.pairs.Pair.{Pair as CodePair}
use Rattle.store_records.specs.declared.pairs.Pairs.{Pairs}
use Rattle.store_records.specs.Views.{pair}

-- the pair at the front, whose key is above this one, and the bytes after it
unfoldable pub pair_in : List ℕ → List ℕ → Reading (Pair × List ℕ)
pair_in before bytes = do
  key ← key_at bytes
  _ ← refuse_if (not (numbers_below before key.0)) tt
  value ← value_at key.1
  Ok ((key.0, value.0), value.1)

-- n pairs, each of a key above the one before it, and no bytes after them
unfoldable pub pairs_only : ℕ → List ℕ → List ℕ → Reading Store
pairs_only n before bytes = do
  pairs ← pairs_at n before bytes
  _ ← refuse_if (nat_lt 0 (length pairs.1)) tt
  Ok pairs.0

-- what a cursor has still to read
abbrev pub pairs_left : Pairs → Reading Store
pairs_left c = pairs_only c.left c.before.now c.rest.now

-- a cursor has all of this to read; without one, there is a fault
abbrev pub Begins : Option Pairs → Reading Store → Type 0
Begins (Some c) read = read ≡ pairs_left c
Begins None read = read ≡ Err tt

-- the next pair is the first of what was left, after which one less is left; none, where none was left; and a fault where there is one
abbrev pub NextIs : Result (Option CodePair) (Unit {0}) → Pairs → Pairs → Type 0
NextIs (Ok (Some e)) c d = (pairs_left c ≡ (pairs_left d >>= λ s. Ok (pair e ∷ s))) × (c.left ≡ suc d.left)
NextIs (Ok None) c d = pairs_left c ≡ Ok []
NextIs (Err e) c d = pairs_left c ≡ Err tt
