use Rattle.std.proofs.Common.{ℕ, List, sym, ap}
use Rattle.story_defs.specs.Lines.{members_behind}
use Rattle.std.proofs.lemmas.Result.{err_from_is_err_and}
use Rattle.story_lines.specs.Cursors.{left}
use Rattle.story_headers.proofs.Members.{fails, goes_on, is_done, shrinks}
use Rattle.story_headers.proofs.headers.members.Goals as goal

pub members-init : goal.members-init
members-init c = ap (λ (ms : List ℕ). members_behind ms (left c.args.words.now)) c.new-members.ensures.items

pub returns-in_err-p : goal.returns-in_err-p
returns-in_err-p c =
    let e = err_from_is_err_and c.from_residual.result c.from_residual.ensures.1 in
    rw (e.1, e.2) (fails c.members.members.items (left c.members.words) _ c.members.invariant
    (sym c.members-test.ensures) c.in_err-p.field-0.0 c.in_err-p.ensures)

pub members-preserved : goal.members-preserved
members-preserved c =
    rw (c.in_ok-push.ensures.items, c.get.ensures.value)
    (goes_on c.members.members.items (left c.members.words) c.in_ok-p.p _ _ c.members.invariant c.in_ok-p.ensures)

pub members-smaller : goal.members-smaller
members-smaller c = shrinks (left c.members.words) c.in_ok-p.p _ c.in_ok-p.ensures

pub returns : goal.returns
returns c = is_done c.members.members.items (left c.members.words) _ c.members.invariant (sym c.members-test.ensures)
