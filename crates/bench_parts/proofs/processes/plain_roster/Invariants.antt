use Rattle.std.proofs.Common.{ℕ, ◌<◌, ◌≡◌, List, All}
use Rattle.bench_parts.specs.Keys.{plain_keys}
use Rattle.bench_parts.proofs.processes.plain_roster.Given as goal

abbrev pub invariant-processes : goal.invariant-processes
invariant-processes l = record {
  below : All (λ (k : ℕ × List ℕ). k.0 < l.n) l.roster;
  keys : l.roster ≡ plain_keys l.n;
}
