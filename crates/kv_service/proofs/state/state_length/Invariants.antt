use Rattle.std.proofs.Common.{◌≡◌, ◌+◌, length}
use Rattle.std.specs.List.{flat_map}
use Rattle.store_defs.specs.Stores.{pair_bytes, store_bytes}
use Rattle.kv_service.specs.Pairs.{pairs_of}
use Rattle.kv_service.proofs.Entries.{pairs}
use Rattle.kv_service.proofs.state.state_length.Given as goal

-- what is counted, and what the pairs that are left have
abbrev pub invariant-pairs : goal.invariant-pairs
invariant-pairs l = l.total + length (flat_map pair_bytes (pairs l.key-iterator)) ≡ length (store_bytes (pairs_of l.pairs))
