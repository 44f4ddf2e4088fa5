use Rattle.std.proofs.Common.{◌≡◌, ◌∙◌, ◌<◌, ℕ, Some, sym, ap, subst}
use Rattle.std.specs.Prelude.{OnOk}
use Rattle.std.proofs.Math.Logic.{∥∥₁_map}
use Rattle.group_defs.specs.Process.{Setting, Process}
use Rattle.group_defs.specs.Settle.{install, leave}
use Rattle.member_state.specs.Below.{Decision, DecidedView, decision_of}
use Rattle.member_state.specs.Phases as phases
use Rattle.member_state.specs.declared.state.ProcessState.{ProcessState}
use Rattle.member_state.specs.States.{IsStateOf}
use Rattle.member_settling.specs.Steps.{in_phase, IsLeaving, Leaves}
use Rattle.member_settling.proofs.Marked.{since-here, stays-in}
use Rattle.member_settling.proofs.Phases.{runs}
use Rattle.member_settling.proofs.Staying.{halts-so, stays-so}
use Rattle.member_settling.proofs.leaving.leave_decided.Goals as goal

-- the process leaves by the decision
is-leaving : (s : Setting) (p : Process) (st : ProcessState) (decided : DecidedView) (d : Decision) → d ≡ decided.decision
    → IsStateOf s p (in_phase (phases.DecidedView decided) st) → IsLeaving s p (decision_of d) st
is-leaving s p st decided d is ok = record {
  phase = phases.DecidedView decided;
  state = ok;
  decision = ok.phase.decision ∙ ap (λ (d : Decision). Some (decision_of d)) (sym is);
  runs = runs p ok.phase.phase;
}

pub install-requires-clause-real : goal.install-requires-clause-real
install-requires-clause-real c = ∥∥₁_map c.requires.real (λ real. record {
  setting = real.setting;
  process = real.process;
  leaving = is-leaving real.setting real.process c.args.state.now c.args.decided c.decision-decision.result c.decision-decision.ensures
      real.state;
})

pub returns-in-Waiting-clause-leaves : goal.returns-in-Waiting-clause-leaves
returns-in-Waiting-clause-leaves c = λ s p ok.
    stays-so s p (leave p) (in_phase (phases.DecidedView c.in-Waiting.decided) c.args.state.now) c.args.notes.now.items
    (c.in-Waiting.ensures.leaves p ok.phase (c.counted-delivered.ensures s p ok.place))
    (subst (λ (d : DecidedView). IsStateOf s p (in_phase (phases.DecidedView d) c.args.state.now)) (sym c.in-Waiting.ensures.exactly.1) ok)

pub returns-in-Install-clause-leaves : goal.returns-in-Install-clause-leaves
returns-in-Install-clause-leaves c = λ s p ok.
    let leaves : leave p ≡ install (decision_of c.args.decided.decision) p = c.in-Install.ensures.leaves p ok.phase
    (c.counted-delivered.ensures s p ok.place) in
    subst (λ (q : Process). OnOk c.install.result (Leaves s p q c.install.new.state c.args.notes.now.items c.install.new.notes.items))
    (sym (leaves ∙ ap (λ (d : Decision). install (decision_of d) p) (sym c.decision-decision.ensures)))
    (c.install.ensures.leaves s p (is-leaving s p c.args.state.now c.args.decided c.decision-decision.result c.decision-decision.ensures ok))

pub returns-in-Halted-clause-leaves : goal.returns-in-Halted-clause-leaves
returns-in-Halted-clause-leaves c = λ s p ok.
    let both = c.in-Halted.ensures.leaves p ok.phase (c.counted-delivered.ensures s p ok.place) in
    halts-so s p (leave p) c.args.state.now c.args.notes.now.items c.args.decided c.in-Halted.halted ok both.0 both.1
    (subst (λ (n : ℕ). c.args.decided.decision.value.cut < n) (c.counted-delivered.ensures s p ok.place) c.in-Halted.ensures.exactly.0)

pub returns-in-Waiting-clause-since : goal.returns-in-Waiting-clause-since
returns-in-Waiting-clause-since c b was is =
    let phase = phases.DecidedView c.in-Waiting.decided in
    since-here b was (in_phase phase c.args.state.now) (stays-in b was c.args.state.now is phase) c.requires.here

pub returns-in-Halted-clause-since : goal.returns-in-Halted-clause-since
returns-in-Halted-clause-since c b was is =
    let phase = phases.HaltedView c.in-Halted.halted in
    since-here b was (in_phase phase c.args.state.now) (stays-in b was c.args.state.now is phase) c.requires.here
