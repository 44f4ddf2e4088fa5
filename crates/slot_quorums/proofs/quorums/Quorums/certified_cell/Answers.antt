use Rattle.std.proofs.Common.{◌∙◌, ◌≤◌, ◌<◌, Some, None, sym, subst, length}
use Rattle.std.proofs.lemmas.Bool.{leb-true, leb-false}
use Rattle.group_defs.specs.Views.{quorum}
use Rattle.group_defs.specs.Certified as defs
use Rattle.claim_index.specs.Statements.{slot}
use Rattle.claim_index.specs.Kept.{Holding}
use Rattle.slot_quorums.specs.Cells.{IsCertifiedBy}
use Rattle.slot_quorums.proofs.Asking.{enough, too_few}
use Rattle.slot_quorums.proofs.quorums.Quorums.certified_cell.Goals as goal

pub returns-then-is_enough : goal.returns-then-is_enough
returns-then-is_enough c =
    let le : quorum (defs.number_of_members c.self.inside.claims.pool)
    ≤ length c.in_ok-cell.cell.now.backers = leb-true (quorum (defs.number_of_members c.self.inside.claims.pool))
    (length c.in_ok-cell.cell.now.backers) (sym c.is_enough.ensures ∙ c.if-is_enough.true) in
    subst (λ (r : Holding). IsCertifiedBy r.pool (slot c.args.kind c.args.about.now) (Some c.in_ok-cell.cell.now)) c.self.view_is
    (enough c.self.inside.claims.pool c.self.inside.cells.entries c.self.invariant.here
    (slot c.args.kind c.args.about.now) c.in_ok-key.key c.in_ok-cell.cell.now c.in_ok-key.ensures c.in_ok-cell.ensures le)

pub returns-else-is_enough : goal.returns-else-is_enough
returns-else-is_enough c =
    let lt : length c.in_ok-cell.cell.now.backers < quorum (defs.number_of_members c.self.inside.claims.pool) = leb-false
    (quorum (defs.number_of_members c.self.inside.claims.pool)) (length c.in_ok-cell.cell.now.backers)
    (sym c.is_enough.ensures ∙ c.if-is_enough.false) in
    subst (λ (r : Holding). IsCertifiedBy r.pool (slot c.args.kind c.args.about.now) None) c.self.view_is
    (too_few c.self.inside.claims.pool c.self.inside.cells.entries c.self.invariant.here
    (slot c.args.kind c.args.about.now) c.in_ok-key.key c.in_ok-cell.cell.now c.in_ok-key.ensures c.in_ok-cell.ensures lt)
