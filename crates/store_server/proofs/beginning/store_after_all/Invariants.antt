use Rattle.std.proofs.Common.{◌≡◌, ◌≤◌, length, []}
use Rattle.std.specs.Prelude.{slice_index_or}
use Rattle.store_defs.specs.Holding.{payloads_of, store_over}
use Rattle.store_server.specs.Beginning.{lists_of}
use Rattle.store_server.proofs.beginning.store_after_all.Given as goal

-- the store after the views so far
abbrev pub invariant-views : goal.invariant-views
invariant-views l = record {
  so_far : l.store ≡ store_over (λ z. payloads_of (slice_index_or (lists_of l.lists) z [])) [] 0 l.delivered-index;
  within : l.delivered-index ≤ length l.lists;
}
