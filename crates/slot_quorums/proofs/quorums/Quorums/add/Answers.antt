use Rattle.std.proofs.Common.{◌≡◌, ◌∙◌, None, ap, sym, subst}
use Rattle.std.specs.Map.{lookup}
use Rattle.message_defs.specs.Statements as plain
use Rattle.group_defs.specs.Views.{IsView}
use Rattle.group_defs.specs.Process.{Pool}
use Rattle.group_defs.specs.Certified as defs
use Rattle.claim_index.specs.Statements.{stmt, claim}
use Rattle.claim_index.specs.Keys.{slot_key, same_slot_key}
use Rattle.claim_index.specs.Kept.{Holding}
use Rattle.slot_quorums.proofs.Hearing.{all_cells}
use Rattle.slot_quorums.proofs.Marks.{still_marked}
use Rattle.slot_quorums.proofs.quorums.Quorums.add.Goals as goal

pub invariant_of-self : goal.invariant_of-self
invariant_of-self c =
    let fresh : defs.claim_on c.self.inside.claims.pool.heard c.args.claim.now.signer (plain.slot_of (stmt c.args.claim.now.statement))
    ≡ None = ap (λ (r : Holding). defs.claim_on r.pool.heard c.args.claim.now.signer
    (plain.slot_of (stmt c.args.claim.now.statement))) c.self.view_is ∙ c.requires.fresh in
    let view : IsView c.hear-cell.new.claims.pool.view = subst (λ (k : Pool). IsView k.view) (sym c.hear-cell.ensures.heard)
    (subst IsView c.view.ensures c.number-number.ensures.within.1) in
    let key : c.slot_key_of-key.result ≡ slot_key (plain.slot_of (stmt c.args.claim.now.statement)) = c.slot_key_of-key.ensures in
    let cells = all_cells c.self.inside.claims.pool (claim c.args.claim.now) fresh c.hear-cell.new.claims.pool
    c.hear-cell.ensures.heard view
    (λ k. lookup (same_slot_key k) c.self.inside.cells.entries) (λ k. lookup (same_slot_key k) c.put.new.cells.entries)
    c.self.invariant.here
    c.hear-cell.result c.hear-cell.ensures.cell
    (λ k. rw key at (c.put.ensures.looks k)) in
    rw (c.note.ensures.items, c.hear-cell.ensures.marked, c.put.ensures.entries)
    (still_marked c.self.inside.claims.pool c.self.inside.claims.marked c.hear-cell.new.claims.pool c.self.inside.cells.entries
    c.slot_key_of-key.result c.place_of-at.result c.hear-cell.result c.self.inside.marked c.self.inside.changed.items c.self.invariant
    c.place_of-at.ensures (rw (sym c.put.ensures.entries) cells))
