use Rattle.std.proofs.Common.{◌∙◌, map, ap, subst, sym}
use Rattle.member_state.specs.Bounds.{AreFew}
use Rattle.snapshot_rp.specs.Views.{delivered}
use Rattle.restored_left.proofs.Ends.{before-in, before-last, few-at}
use Rattle.restored_left.proofs.past.delivered_before.Goals as goal

pub returns-in-Some-last-clause-before : goal.returns-in-Some-last-clause-before
returns-in-Some-last-clause-before c rest ds last is =
    ap (map delivered) c.as_slice.ensures.value ∙ before-last (λ es. map delivered es.items) c.args.lists.now c.in-Some.before.now
    c.in-Some.field-0-0.now c.in-Some-last.delivered.now rest ds last c.in-Some.ensures.cases.0 c.in-Some-last.ensures.value is

pub returns-in-Some-last-clause-few : goal.returns-in-Some-last-clause-few
returns-in-Some-last-clause-few c placed =
    subst (λ es. AreFew (map delivered es)) (sym c.as_slice.ensures.value)
    (few-at (map (λ es. map delivered es.items) c.args.lists.now) (map delivered c.in-Some-last.delivered.now.items)
    (before-in (λ es. map delivered es.items) c.args.lists.now c.in-Some.before.now c.in-Some.field-0-0.now c.in-Some-last.delivered.now
    c.in-Some.ensures.cases.0 c.in-Some-last.ensures.value) placed)
