use Rattle.std.proofs.Common.{◌≡◌, ◌+◌, ◌*◌, ◌≤◌, length}
use Rattle.group_defs.specs.Certified.{number_of_members}
use Rattle.pool_measures.proofs.hearing.hear.Given as goal

abbrev pub invariant-claims : goal.invariant-claims
invariant-claims l = record {
  members : length l.judge.own.counts.items ≡ number_of_members l.pool.pool;
  room : l.count ≤ l.pool.claims_left + l.index;
  bytes : l.count * 1064 ≤ l.pool.bytes_left + l.index * 1064;
}
