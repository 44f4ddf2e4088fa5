use Rattle.std.proofs.Common.{◌∙◌, ap}
use Rattle.std.specs.Result.{result_ok}
use Rattle.group_defs.specs.Views.{next}
use Rattle.rp_base.specs.declared.updates.Update.{Update}
use Rattle.rp_base.specs.Views.{update}
use Rattle.member_state.specs.Below.{decision_of}
use Rattle.member_settling.proofs.Begun.{behind-none, behind-some}
use Rattle.member_settling.proofs.Marked.{since-here}
use Rattle.member_settling.proofs.leaving.install.Goals as goal

pub returns-in-Some-clause-leaves : goal.returns-in-Some-clause-leaves
returns-in-Some-clause-leaves c = λ s p leaving.
    c.enter.ensures.leaves s p leaving (behind-some s p
    (decision_of c.args.decision) c.args.state.now c.in-Some.view c.view_behind-behind.result leaving
    (c.view_behind-behind.ensures ∙ ap
    (λ (u : Update). result_ok (next c.args.state.now.pool.pool.view (update u))) c.requires.same) c.in-Some.is)

pub returns-in-None-clause-leaves : goal.returns-in-None-clause-leaves
returns-in-None-clause-leaves c = λ s p leaving.
    absurd (behind-none s p (decision_of c.args.decision) c.args.state.now c.view_behind-behind.result leaving
    (c.view_behind-behind.ensures ∙ ap
    (λ (u : Update). result_ok (next c.args.state.now.pool.pool.view (update u))) c.requires.same) c.in-None.is)

pub returns-in-None-clause-since : goal.returns-in-None-clause-since
returns-in-None-clause-since c b was is = since-here b was c.args.state.now is c.requires.here
