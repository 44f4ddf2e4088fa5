use Rattle.std.proofs.Common.{◌≡◌, ◌∙◌, Some, None, true, ap, sym, length}
use Rattle.std.specs.Map.{lookup}
use Rattle.std.specs.Option.{option_copied}
use Rattle.byte_defs.specs.Choices.{is_some_and}
use Rattle.message_defs.specs.Statements.{slot_of, same_statement}
use Rattle.group_defs.specs.Certified as defs
use Rattle.claim_index.specs.Statements.{stmt}
use Rattle.claim_index.specs.Keys.{slot_key, same_slot_key}
use Rattle.claim_index.specs.Kept.{Holding}
use Rattle.slot_quorums.specs.Cells.{said_at}
use Rattle.slot_quorums.proofs.Asking.{count-is, count-none}
use Rattle.slot_quorums.proofs.quorums.Quorums.count.Goals as goal

pub returns-in_default : goal.returns-in_default
returns-in_default c =
    let none : None ≡ lookup (same_slot_key
    (slot_key (slot_of (stmt c.args.statement.now)))) c.self.inside.cells.entries = sym (ap option_copied c.in_default.is)
    ∙ c.cell_at.ensures ∙ ap
    (λ k. lookup (same_slot_key k) c.self.inside.cells.entries) c.slot_key_of.ensures in
    count-none c.self.inside.claims.pool c.self.inside.cells.entries c.self.invariant.here (stmt c.args.statement.now) none
    ∙ ap (λ (r : Holding). length (defs.backers r.pool (stmt c.args.statement.now))) c.self.view_is

pub returns-then-is_content : goal.returns-then-is_content
returns-then-is_content c =
    let there : Some c.in-Some.cell.now
    ≡ lookup (same_slot_key (slot_key
    (slot_of (stmt c.args.statement.now)))) c.self.inside.cells.entries = sym (ap option_copied c.in-Some.is) ∙ c.cell_at.ensures ∙ ap
    (λ k. lookup (same_slot_key k) c.self.inside.cells.entries) c.slot_key_of.ensures in
    let says : is_some_and (said_at c.self.inside.claims.pool c.in-Some.cell.now.place) (same_statement (stmt c.args.statement.now))
    ≡ true = sym c.is_content.ensures ∙ c.if-is_content.true in
    c.count.ensures ∙ count-is c.self.inside.claims.pool c.self.inside.cells.entries c.self.invariant.here
    (stmt c.args.statement.now) c.in-Some.cell.now there says
    ∙ ap (λ (r : Holding). length (defs.backers r.pool (stmt c.args.statement.now))) c.self.view_is
