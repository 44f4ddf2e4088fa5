use Rattle.std.proofs.Common.{◌≡◌, ◌<◌, ◌≤◌, length, take}
use Rattle.std.specs.Prelude.{All}
use Rattle.interop_pool.proofs.hearers.processes.Given as goal

abbrev pub invariant-loop-number : goal.invariant-loop-number
invariant-loop-number l = record {
  so_far : l.processes.items ≡ take l.number-index l.numbers;
  room : length l.processes.items ≤ l.number-index;
  below : All (λ n. n < 64) (take l.number-index l.numbers);
}
