use Rattle.std.proofs.Common.{◌≡◌, ◌∙◌, ◌≤◌, ◌&&◌, Some, None, Bool, ap, sym, subst, length}
use Rattle.std.specs.Map.{lookup}
use Rattle.std.specs.Option.{option_copied}
use Rattle.byte_defs.specs.Choices.{is_some_and}
use Rattle.message_defs.specs.Statements.{slot_of, same_statement}
use Rattle.group_defs.specs.Views.{View}
use Rattle.group_defs.specs.Certified as defs
use Rattle.claim_index.specs.Statements.{stmt}
use Rattle.claim_index.specs.Keys.{slot_key, same_slot_key}
use Rattle.claim_index.specs.Kept.{Holding}
use Rattle.slot_quorums.specs.Cells.{said_at}
use Rattle.slot_quorums.proofs.Asking.{certifies, certifies-none}
use Rattle.slot_quorums.proofs.quorums.Quorums.is_certified.Goals as goal

pub returns-in_default : goal.returns-in_default
returns-in_default c =
    let some : 1 ≤ defs.number_of_members c.self.inside.claims.pool =
    subst (λ (v : View). 1 ≤ length v.members) c.view.ensures c.members-members.ensures.within.1.some in
    let none : None ≡ lookup (same_slot_key
    (slot_key (slot_of (stmt c.args.statement.now)))) c.self.inside.cells.entries = sym (ap option_copied c.in_default.is)
    ∙ c.cell_at.ensures ∙ ap (λ k. lookup (same_slot_key k) c.self.inside.cells.entries) c.slot_key_of.ensures in
    certifies-none c.self.inside.claims.pool c.self.inside.cells.entries c.self.invariant.here (stmt c.args.statement.now) some none
    ∙ ap (λ (r : Holding). defs.is_certified r.pool (stmt c.args.statement.now)) c.self.view_is

pub returns-then-is_enough : goal.returns-then-is_enough
returns-then-is_enough c =
    let some : 1 ≤ defs.number_of_members c.self.inside.claims.pool =
    subst (λ (v : View). 1 ≤ length v.members) c.view.ensures c.members-members.ensures.within.1.some in
    let there : Some c.in-Some.cell.now ≡ lookup (same_slot_key
    (slot_key (slot_of (stmt c.args.statement.now)))) c.self.inside.cells.entries = sym (ap option_copied c.in-Some.is)
    ∙ c.cell_at.ensures ∙ ap (λ k. lookup (same_slot_key k) c.self.inside.cells.entries) c.slot_key_of.ensures in
    ap (λ (b : Bool). b && c.is_content.result) (sym c.if-is_enough.true)
    ∙ (λ i. c.is_enough.ensures i && c.is_content.ensures i)
    ∙ certifies c.self.inside.claims.pool c.self.inside.cells.entries c.self.invariant.here
    (stmt c.args.statement.now) c.in-Some.cell.now some there
    ∙ ap (λ (r : Holding). defs.is_certified r.pool (stmt c.args.statement.now)) c.self.view_is

pub returns-else-is_enough : goal.returns-else-is_enough
returns-else-is_enough c =
    let some : 1 ≤ defs.number_of_members c.self.inside.claims.pool =
    subst (λ (v : View). 1 ≤ length v.members) c.view.ensures c.members-members.ensures.within.1.some in
    let there : Some c.in-Some.cell.now ≡ lookup (same_slot_key
    (slot_key (slot_of (stmt c.args.statement.now)))) c.self.inside.cells.entries = sym (ap option_copied c.in-Some.is)
    ∙ c.cell_at.ensures ∙ ap (λ k. lookup (same_slot_key k) c.self.inside.cells.entries) c.slot_key_of.ensures in
    let says : Bool = is_some_and (said_at c.self.inside.claims.pool c.in-Some.cell.now.place)
    (same_statement (stmt c.args.statement.now)) in
    c.if-is_enough.false
    ∙ ap (λ (b : Bool). b && says) (sym c.if-is_enough.false)
    ∙ (λ i. c.is_enough.ensures i && says)
    ∙ certifies c.self.inside.claims.pool c.self.inside.cells.entries c.self.invariant.here
    (stmt c.args.statement.now) c.in-Some.cell.now some there
    ∙ ap (λ (r : Holding). defs.is_certified r.pool (stmt c.args.statement.now)) c.self.view_is
