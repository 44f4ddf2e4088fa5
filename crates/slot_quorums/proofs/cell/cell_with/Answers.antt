use Rattle.std.proofs.Common.{◌≡◌, ◌∙◌, [], ap, sym, subst}
use Rattle.byte_defs.specs.Members.{has}
use Rattle.group_defs.specs.Views.{IsView, is_member}
use Rattle.message_defs.specs.Statements.{slot_of}
use Rattle.claim_index.specs.Statements.{stmt, claim}
use Rattle.slot_quorums.specs.Cells.{joining, IsOf}
use Rattle.slot_quorums.proofs.Hearing.{starts, goes_on, turns}
use Rattle.slot_quorums.proofs.cell.cell_with.Goals as goal

pub returns-in-None : goal.returns-in-None
returns-in-None c h grown fresh place of =
    let view : IsView c.args.claims.now.pool.view = subst IsView c.view.ensures c.members-members.ensures.within.1 in
    let member : c.is_member-is_member.result
    ≡ has c.args.claims.now.pool.view.members c.args.claim.now.signer = c.is_member-is_member.ensures ∙ ap
    (λ v. is_member v c.args.claim.now.signer) c.view-2.ensures in
    starts h (claim c.args.claim.now) fresh c.args.claims.now.pool grown view c.empty.result c.joined.result
    (c.empty.ensures ∙ (λ i. record { place = place i; backers = []; speakers = [] }))
    (c.joined.ensures ∙ ap (joining c.empty.result c.args.claim.now.signer) member)
    (subst (IsOf h (slot_of (stmt c.args.claim.now.statement))) c.in-None.is of)

pub returns-then-says_at : goal.returns-then-says_at
returns-then-says_at c h grown fresh place of =
    let view : IsView c.args.claims.now.pool.view = subst IsView c.view.ensures c.members-members.ensures.within.1 in
    let member : c.is_member-is_member.result
    ≡ has c.args.claims.now.pool.view.members c.args.claim.now.signer = c.is_member-is_member.ensures ∙ ap
    (λ v. is_member v c.args.claim.now.signer) c.view-2.ensures in
    goes_on h (claim c.args.claim.now) fresh c.args.claims.now.pool grown view c.in-Some.cell c.joined-then-says_at.result
    (subst (IsOf h (slot_of (stmt c.args.claim.now.statement))) c.in-Some.is of)
    (sym c.says_at.ensures ∙ c.if-says_at.true)
    (c.joined-then-says_at.ensures ∙ ap (joining c.in-Some.cell c.args.claim.now.signer) member)

pub returns-else-says_at : goal.returns-else-says_at
returns-else-says_at c h grown fresh place of =
    let view : IsView c.args.claims.now.pool.view = subst IsView c.view.ensures c.members-members.ensures.within.1 in
    turns h (claim c.args.claim.now) fresh c.args.claims.now.pool grown view c.in-Some.cell c.joined-cell.result c.with_other.result
    c.args.place
    (subst (IsOf h (slot_of (stmt c.args.claim.now.statement))) c.in-Some.is of)
    (sym c.says_at.ensures ∙ c.if-says_at.false)
    c.joined-cell.ensures place c.with_other.ensures
