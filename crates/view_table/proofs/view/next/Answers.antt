use Rattle.rp_base.specs.Views.{update}
use Rattle.view_table.proofs.Following.{follows}
use Rattle.view_table.proofs.view.next.Goals as goal

pub invariant_of-result : goal.invariant_of-result
invariant_of-result c =
    follows _ c.args.view.now c.in_ok-members.members.items
    (update c.args.update) c.view.view_is c.view.invariant c.if-view-eq-LAST_NUMBER.false c.in_ok-members.ensures.follows
