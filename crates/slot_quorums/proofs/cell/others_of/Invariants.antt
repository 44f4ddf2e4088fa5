use Rattle.std.proofs.Common.{◌≡◌, ◌≤◌, length, drop}
use Rattle.std.specs.Prelude.{◌&&◌, filter}
use Rattle.byte_defs.specs.Orders.{sorted}
use Rattle.group_defs.specs.Certified as defs
use Rattle.claim_index.specs.Statements.{stmt}
use Rattle.claim_index.specs.Kept.{by_number}
use Rattle.slot_quorums.specs.Cells.{speaks_otherwise}
use Rattle.slot_quorums.proofs.cell.others_of.Given as goal

abbrev pub invariant-members : goal.invariant-members
invariant-members l = record {
  set : l.backers ≡ sorted by_number
      (filter (λ m. speaks_otherwise l.fn.cell m && defs.says l.fn.claims.pool (stmt l.fn.statement) m) (drop l.left l.members));
  within : l.left ≤ length l.members;
}

abbrev pub decreases-members : goal.decreases-members
decreases-members l = l.left
