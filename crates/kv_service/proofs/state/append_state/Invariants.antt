use Rattle.std.proofs.Common.{◌≡◌, ◌≤◌, ◌++◌, vec_capacity}
use Rattle.std.specs.List.{flat_map, AllByRecursion}
use Rattle.store_defs.specs.Stores.{IsPair, pair_bytes, store_bytes}
use Rattle.kv_service.specs.Pairs.{pairs_of}
use Rattle.kv_service.proofs.Entries.{pairs}
use Rattle.kv_service.proofs.state.append_state.Given as goal

-- what was appended with the pairs that are left is the state, and there is room for it
abbrev pub invariant-pairs : goal.invariant-pairs
invariant-pairs l = record {
  items : l.out.items ++ flat_map pair_bytes (pairs l.key-iterator) ≡ l.fn.out.items ++ store_bytes (pairs_of l.pairs);
  room : vec_capacity l.fn.out ≤ vec_capacity l.out;
  each : AllByRecursion IsPair (pairs l.key-iterator);
}
