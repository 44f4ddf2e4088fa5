use Rattle.std.proofs.Common.{subst, sym, Option, None}
use Rattle.std.specs.Option.{MatchOption}
use Rattle.member_state.specs.declared.left.LeftView.{LeftView}
use Rattle.member_state.specs.Marks.{Stays, HasLeft}
use Rattle.member_state.proofs.Marked.{since_so}
use Rattle.member_state.proofs.state.ProcessState.rewind.Goals as goal

pub returns-clause-back : goal.returns-clause-back
returns-clause-back c was since =
    let here = subst (λ (o : Option LeftView). MatchOption o (Stays c.args.before.now was c.args.self.now)
    (λ left. HasLeft c.args.before.now was left c.args.self.now)) (sym c.replace-left.ensures.value) since in
    c.rewind_here.ensures.back was (c.come_back_if.ensures.stands c.args.before.now was
    (rw c.replace-left.ensures.after (since_so c.args.before.now was c.args.self.now None c.replace-left.result here)))
