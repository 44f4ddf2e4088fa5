use Rattle.std.proofs.Common.{◌≡◌, ◌≤◌, length, take}
use Rattle.interop_pool.proofs.hearers.counts_of.Given as goal

abbrev pub invariant-loop-count : goal.invariant-loop-count
invariant-loop-count l = record {
  so_far : l.counts.items ≡ take l.count-index l.bytes;
  room : length l.counts.items ≤ l.count-index;
}
