use Rattle.std.proofs.Common.{subst, Option}
use Rattle.std.specs.Option.{MatchOption}
use Rattle.member_state.specs.declared.left.LeftView.{LeftView}
use Rattle.member_state.specs.Marks.{Stays, HasLeft}
use Rattle.member_state.proofs.state.ProcessState.come_back_if.Goals as goal

pub returns-in-Some-clause-stands : goal.returns-in-Some-clause-stands
returns-in-Some-clause-stands c b was since = c.come_back.ensures.stands b was
    (subst (λ (o : Option LeftView). MatchOption o (Stays b was c.args.self.now) (λ left. HasLeft b was left c.args.self.now)) c.in-Some.is
    since)
