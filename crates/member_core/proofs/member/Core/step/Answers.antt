use Rattle.std.proofs.Common.{◌∙◌, refl, sym, arith}
use Rattle.member_signing.specs.States.{event}
use Rattle.member_core.specs.Cores.{IsCore, turn_of}
use Rattle.member_core.proofs.Spelled.{few-signed, entry-so}
use Rattle.member_core.proofs.Stepped.{steps-so}
use Rattle.member_core.proofs.member.Core.step.Goals as goal

pub returns-in-Ok-clause-steps : goal.returns-in-Ok-clause-steps
unfolding IsCore
returns-in-Ok-clause-steps g c s p is rule =
    steps-so g.G.Tally.used g.G.Tally.total g.G.Signer.signature s p c.args.self.now
    (record { keyless = c.step.new.self; signer = c.step.new.signer }) (event c.args.event.now) c.in-Ok.outcome
    (c.in-Ok.ensures.takes s p is.keyless rule is.signed)

pub returns-in-Err-clause-lost : goal.returns-in-Err-clause-lost
unfolding IsCore
returns-in-Err-clause-lost g c s p is = record {
  keyless = c.in-Err.ensures.lost s p is.keyless;
  signed = is.signed ∙ sym (c.retract.ensures.used ∙ c.used-used.ensures.value);
}

pub returns-in-Ok-clause-few : goal.returns-in-Ok-clause-few
unfolding IsCore
returns-in-Ok-clause-few g c s p is rule =
    few-signed s p (turn_of g.G.Tally.used g.G.Tally.total g.G.Signer.signature c.args.self.now (event c.args.event.now))
    c.step.new.self (g.G.Tally.used c.step.new.signer) c.in-Ok.outcome (c.in-Ok.ensures.takes s p is.keyless rule is.signed)

pub returns-in-Ok-clause-entry : goal.returns-in-Ok-clause-entry
unfolding IsCore
returns-in-Ok-clause-entry g c s p is rule taken =
    entry-so s p (turn_of g.G.Tally.used g.G.Tally.total g.G.Signer.signature c.args.self.now (event c.args.event.now))
    c.step.new.self (g.G.Tally.used c.step.new.signer) c.in-Ok.outcome (c.in-Ok.ensures.takes s p is.keyless rule is.signed)
    c.args.event.now refl (let me = c.me.ensures.process s p is in let low = c.get-number.ensures.below in let same = c.get-number.ensures.value in omega (arith, me, low, same))
    c.heed.ensures taken
