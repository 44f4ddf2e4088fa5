use Rattle.store_records.specs.Cursors.{pairs_left}
use Rattle.store_defs.specs.Stores.{store_of}
use Rattle.kv_service.specs.Pairs.{pairs_of}
use Rattle.kv_service.proofs.Reading.{HasRead}
use Rattle.kv_service.proofs.store.Store.of_state.Given as goal

-- the pairs that were read are the first ones of the store
abbrev pub invariant-pairs : goal.invariant-pairs
invariant-pairs l = HasRead (store_of l.bytes) (pairs_left l.left) (pairs_of l.pairs)

abbrev pub decreases-pairs : goal.decreases-pairs
decreases-pairs l = l.left.left
