use Rattle.std.proofs.Common.{Some, sym, ap, ◌∙◌, subst}
use Rattle.member_settling.specs.Below.{Decision, Phase, IsIn, decision_of}
use Rattle.state_image.proofs.Phases.{none-decided}
use Rattle.state_image.proofs.reported.decision_in.Goals as goal

pub returns-in-DecidedView : goal.returns-in-DecidedView
returns-in-DecidedView c = λ p is. (subst (λ (phase : Phase). IsIn phase p) c.in-DecidedView.is is).decision
    ∙ ap (λ (d : Decision). Some (decision_of d)) (sym c.decision.ensures) ∙ sym c.parts.ensures

pub returns-in-HaltedView : goal.returns-in-HaltedView
returns-in-HaltedView c = λ p is. (subst (λ (phase : Phase). IsIn phase p) c.in-HaltedView.is is).decision
    ∙ ap (λ (d : Decision). Some (decision_of d)) (sym c.decision-in-HaltedView.ensures) ∙ sym c.parts-in-HaltedView.ensures

pub returns-in_default : goal.returns-in_default
returns-in_default c = λ p is. none-decided c.args.phase.now p is c.in_default.not-DecidedView c.in_default.not-HaltedView
