use Rattle.std.proofs.Common.{◌≡◌}
use Rattle.std.specs.Prelude.{is_ok}
use Rattle.store_defs.specs.Stores.{store_of}
use Rattle.store_records.specs.Cursors.{pairs_left}
use Rattle.store_records.proofs.pairs.is_store.Given as goal

-- the bytes spell a store where the pairs that are left are read
abbrev pub invariant-pairs : goal.invariant-pairs
invariant-pairs l = is_ok (store_of l.bytes) ≡ is_ok (pairs_left l.pairs)

abbrev pub decreases-pairs : goal.decreases-pairs
decreases-pairs l = l.pairs.left
