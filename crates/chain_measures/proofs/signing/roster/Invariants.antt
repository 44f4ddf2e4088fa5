use Rattle.std.proofs.Common.{ℕ, ◌<◌, List, All}
use Rattle.chain_measures.proofs.signing.roster.Given as goal

abbrev pub invariant-processes : goal.invariant-processes
invariant-processes l = record {
  below : All (λ (k : ℕ × List ℕ). k.0 < l.number) l.roster;
}
