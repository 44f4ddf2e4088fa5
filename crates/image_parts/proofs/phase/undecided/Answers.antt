use Rattle.std.proofs.Common.{◌∙◌}
use Rattle.group_defs.specs.Views.{is_member}
use Rattle.image_parts.proofs.Phases.{member-so, observing-is}
use Rattle.image_parts.proofs.phase.undecided.Goals as goal

pub returns-in-OpenView : goal.returns-in-OpenView
returns-in-OpenView c = λ p view me halted none end.
    c.closed.ensures p halted none ((λ i. is_member (view i) (me i)) ∙ member-so (is_member c.args.view.now c.args.me) c.in-OpenView.ensures.word) end

pub returns-in_default : goal.returns-in_default
returns-in_default c = λ p view me halted none end.
    observing-is p halted none c.begin.result (is_member c.args.view.now c.args.me) c.in_default.not-OpenView c.begin.ensures.word
    (λ i. is_member (view i) (me i))
