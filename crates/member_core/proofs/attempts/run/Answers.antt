use Rattle.std.proofs.Common.{◌-◌, ◌∙◌, ap, sym, subst}
use Rattle.std.specs.Prelude.{IfOk}
use Rattle.group_defs.specs.Events as defs
use Rattle.member_sending.specs.Taking.{fault}
use Rattle.member_signing.specs.States.{event}
use Rattle.member_core.specs.Outcomes.{is_asked, HasTaken}
use Rattle.member_core.proofs.Back.{asks-so, since-stays}
use Rattle.member_core.proofs.Joined.{refused-so}
use Rattle.member_core.proofs.attempts.run.Goals as goal

pub returns-in-Ok-clause-taken : goal.returns-in-Ok-clause-taken
returns-in-Ok-clause-taken g c s p shares kinds made is =
    subst (λ (e : defs.Event). IfOk c.take.result (HasTaken s p (record {
      event = e;
      allowance = g.G.Tally.total c.args.signer.now - g.G.Tally.used c.args.signer.now;
      signer = g.G.Signer.signature c.args.signer.now;
    }) c.take.new.state (g.G.Tally.used c.take.new.signer))) (sym c.in-Ok.ensures.read) (c.take.ensures.taken s p shares kinds made is)

pub returns-in-Ok-clause-since : goal.returns-in-Ok-clause-since
returns-in-Ok-clause-since g c b was asks is =
    c.take.ensures.since b was (λ asked. asks (ap is_asked c.in-Ok.ensures.read ∙ asks-so c.in-Ok.input ∙ asked)) is

pub returns-in-Err-clause-taken : goal.returns-in-Err-clause-taken
returns-in-Err-clause-taken g c s p shares kinds made is =
    refused-so s p (record {
      event = event c.args.event.now;
      allowance = g.G.Tally.total c.args.signer.now - g.G.Tally.used c.args.signer.now;
      signer = g.G.Signer.signature c.args.signer.now;
    }) c.args.state.now (g.G.Tally.used c.args.signer.now) c.refused.result (fault c.in-Err.fault) (c.in-Err.ensures.refused s p is) is made
    c.refused.ensures

pub returns-in-Err-clause-since : goal.returns-in-Err-clause-since
returns-in-Err-clause-since g c b was asks is = since-stays b was c.args.state.now c.requires.here is
