use Rattle.std.proofs.Common.{sym, subst}
use Rattle.member_state.specs.Below.{Phase, IsIn}
use Rattle.member_settling.proofs.Changed.{decides-state}
use Rattle.member_settling.proofs.deciding.decide.Goals as goal

pub returns-clause-decides : goal.returns-clause-decides
returns-clause-decides c = λ s p ok.
    decides-state s p c.args.state.now c.phase_then-state.result
    (c.phase_then-state.ensures s p ok.place.keys ok.place.pool
    (subst (λ (phase : Phase). IsIn phase p) (sym c.take-phase.ensures) ok.phase)) ok
