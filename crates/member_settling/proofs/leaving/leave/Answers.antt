use Rattle.std.proofs.Common.{sym, ap, subst}
use Rattle.group_defs.specs.Settle.{leave}
use Rattle.member_state.specs.Below.{Phase, IsIn}
use Rattle.member_state.specs.States.{IsStateOf}
use Rattle.member_settling.specs.Steps.{in_phase}
use Rattle.member_settling.proofs.Marked.{since-here, stays-in}
use Rattle.member_settling.proofs.Staying.{stays, stays-so}
use Rattle.member_settling.proofs.leaving.leave.Goals as goal

pub returns-in_default-clause-leaves : goal.returns-in_default-clause-leaves
returns-in_default-clause-leaves c = λ s p ok.
    let taken = c.take.ensures in
    stays-so s p (leave p) (in_phase c.take.result c.args.state.now) c.args.notes.now.items
    (stays s p c.args.state.now c.take.result ok
    (subst (λ (phase : Phase). IsIn phase p) (sym taken) ok.phase) c.in_default.not-DecidedView)
    (subst (IsStateOf s p) (sym (ap (λ (phase : Phase). in_phase phase c.args.state.now) taken)) ok)

pub returns-in-DecidedView-clause-since : goal.returns-in-DecidedView-clause-since
returns-in-DecidedView-clause-since c b was is = c.leave_decided.ensures.since b was
    (stays-in b was c.args.state.now is c.take.new.self)

pub returns-in_default-clause-since : goal.returns-in_default-clause-since
returns-in_default-clause-since c b was is = since-here b was (in_phase c.take.result c.args.state.now)
    (stays-in b was c.args.state.now is c.take.result) c.requires.here
