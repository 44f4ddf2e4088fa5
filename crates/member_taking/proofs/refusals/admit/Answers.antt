use Rattle.group_defs.specs.Events.{refusal}
use Rattle.member_state.specs.Parts.{fault as fault_of}
use Rattle.member_state.specs.Events.{event as event_of}
use Rattle.member_taking.proofs.Running.{running, admits, refuses}
use Rattle.member_taking.proofs.refusals.admit.Goals as goal

pub returns-clause-taken : goal.returns-clause-taken
returns-clause-taken c = admits fault_of (λ s p. refusal s p (event_of c.args.event.now)) c.args.state.now c.admit_running.result
    (λ s p is. c.admit_running.ensures.exactly s p is (running s p c.args.state.now is (c.in_default.ensures s p is)))

pub returns-clause-refused : goal.returns-clause-refused
returns-clause-refused c = refuses fault_of (λ s p. refusal s p (event_of c.args.event.now)) c.args.state.now c.admit_running.result
    (λ s p is. c.admit_running.ensures.exactly s p is (running s p c.args.state.now is (c.in_default.ensures s p is)))
