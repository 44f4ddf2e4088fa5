use Rattle.std.proofs.Common.{◌≡◌, length, All}
use Rattle.message_defs.specs.Spelling.{IsMessage}
use Rattle.pool_measures.proofs.claims.batch.Given as goal

abbrev pub invariant-members : goal.invariant-members
invariant-members l = record {
  count : length l.batch ≡ l.more;
  each : All IsMessage l.batch;
}
