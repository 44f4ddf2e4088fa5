use Rattle.std.proofs.Common.{◌≡◌}
use Rattle.bench_parts.specs.Hashes.{hashed}
use Rattle.bench_parts.proofs.blocks.hash_blocks.Given as goal

abbrev pub invariant-rounds : goal.invariant-rounds
invariant-rounds l = l.block ≡ hashed l.counter
