use Rattle.std.proofs.Common.{◌≡◌, ◌≤◌, length, drop}
use Rattle.std.specs.Prelude.{filter}
use Rattle.byte_defs.specs.Orders.{sorted}
use Rattle.group_defs.specs.Certified as defs
use Rattle.stmt_codec.specs.Views.{stmt}
use Rattle.claim_index.specs.Kept.{by_number}
use Rattle.claim_index.proofs.index.ClaimIndex.backers.Given as goal

abbrev pub invariant-members : goal.invariant-members
invariant-members l = record {
  set : l.backers ≡ sorted by_number (filter (defs.says l.fn.self.pool (stmt l.fn.statement)) (drop l.left l.members));
  within : l.left ≤ length l.members;
}

abbrev pub decreases-members : goal.decreases-members
decreases-members l = l.left
