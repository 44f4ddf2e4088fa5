use Rattle.std.proofs.Common.{subst}
use Rattle.member_settling.specs.Below.{Phase, IsIn}
use Rattle.member_settling.proofs.Phases.{halted}
use Rattle.state_image.proofs.Phases.{not-halted}
use Rattle.state_image.proofs.reported.is_halted.Goals as goal

pub returns-in-HaltedView : goal.returns-in-HaltedView
returns-in-HaltedView c = λ p is. halted p (subst (λ (phase : Phase). IsIn phase p) c.in-HaltedView.is is).phase

pub returns-in_default : goal.returns-in_default
returns-in_default c = λ p is. not-halted c.args.phase.now p is c.in_default.not-HaltedView
