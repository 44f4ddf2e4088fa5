use Rattle.std.proofs.Common.{◌≡◌, length, ap, sym, ◌∙◌, arith}
use Rattle.group_defs.specs.Views.{View}
use Rattle.group_defs.specs.Process.{Pool}
use Rattle.pool_laws.proofs.Places.{get-some}
use Rattle.proof_defs.specs.Lines.{proof_line}
use Rattle.proof_lines.specs.Seen.{CanTravel}
use Rattle.proof_lines.proofs.Lefts.{all-reported, none-reported, one-reported}
use Rattle.proof_lines.proofs.lines.push_views.Goals as goal

pub views-init : goal.views-init
views-init c = λ s p is. none-reported (proof_line p.me) CanTravel p.left c.args.out.now.items

pub views-preserved : goal.views-preserved
views-preserved c = λ s p is.
    let number = c.number-view-end.ensures.value in
    let pool = ap (λ (v : View). v.number) c.view.ensures in
    let own = ap (λ (h : Pool). h.view.number) is.place.pool in
    let many = is.number in
    let lt = c.views-test.true in
    let at = get-some p.left c.views.view (omega (arith, number, pool, own, many, lt)) in
    one-reported (proof_line p.me) CanTravel p.left c.views.view c.args.out.now.items c.views.out.items _ at.0 (c.views.invariant s p is) at.1
    (c.in_ok-push_view.ensures s p at.0 is at.1)

pub returns : goal.returns
returns c = λ s p is.
    let number = c.number-view-end.ensures.value in
    let pool = ap (λ (v : View). v.number) c.view.ensures in
    let own = ap (λ (h : Pool). h.view.number) is.place.pool in
    let many = is.number in
    let past = c.views-test.false in
    all-reported (proof_line p.me) CanTravel p.left c.views.view c.args.out.now.items c.views.out.items (c.views.invariant s p is)
    (omega (arith, number, pool, own, many, past))
