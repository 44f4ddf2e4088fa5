use Rattle.std.proofs.Common.{◌≡◌}
use Rattle.std.proofs.Math.Logic.{∥∥₁_map}
use Rattle.hosted_core.proofs.Turned.{took-so, real-after, real-within, refused-so, turn-so}
use Rattle.hosted_core.proofs.hosted.Hosted.take.Goals as goal

pub new-requires : goal.new-requires
new-requires g c = record {
  took = took-so g.G.Tally.used g.G.Tally.total g.G.Signer.signature (g.V.Scheme.valid c.args.scheme.now)
      c.args.self (record { core = c.step.new.self }) c.args.event.now c.in-Ok.outcome
      (λ s p is rule. c.in-Ok.ensures.steps s p is rule) c.requires.real
      (λ s p is rule. c.in-Ok.ensures.entry s p is rule c.in-Taken.is);
}

pub returns-in-Refused-clause-takes : goal.returns-in-Refused-clause-takes
returns-in-Refused-clause-takes g c = λ s p is rule. refused-so g.G.Tally.used g.G.Tally.total g.G.Signer.signature
    (g.V.Scheme.valid c.args.scheme.now) c.args.self (record { core = c.step.new.self }) c.args.event.now c.in-Ok.outcome
    (λ s p is rule. c.in-Ok.ensures.steps s p is rule) s p is rule c.in-Refused.fault c.in-Refused.is

pub returns-in_ok-turn-in-Taken-clause-takes : goal.returns-in_ok-turn-in-Taken-clause-takes
returns-in_ok-turn-in-Taken-clause-takes g c = λ s p is rule. turn-so g.G.Tally.used g.G.Tally.total g.G.Signer.signature
    (g.V.Scheme.valid c.args.scheme.now) c.args.self (record { core = c.step.new.self }) c.args.event.now c.in-Ok.outcome
    (λ s p is rule. c.in-Ok.ensures.steps s p is rule) s p is rule c.in_ok-turn-in-Taken.turn c.in_ok-turn-in-Taken.ensures.process
    c.in_ok-turn-in-Taken.ensures.outcome c.in_ok-turn-in-Taken.ensures.entry c.in-Taken.is
    (c.in-Ok.ensures.entry s p is rule c.in-Taken.is)

pub returns-in_default-clause-real : goal.returns-in_default-clause-real
returns-in_default-clause-real g c = ∥∥₁_map c.requires.real (λ has. record {
  setting = has.setting;
  process = has.process;
  core = c.in_default.ensures.lost has.setting has.process has.core;
})

pub returns-in-Refused-clause-real : goal.returns-in-Refused-clause-real
returns-in-Refused-clause-real g c = real-after g.G.Tally.used g.G.Tally.total g.G.Signer.signature (g.V.Scheme.valid c.args.scheme.now)
    c.args.self (record { core = c.step.new.self }) c.args.event.now c.in-Ok.outcome
    (λ s p is rule. c.in-Ok.ensures.steps s p is rule) c.requires.real

pub returns-in_ok-turn-in-Taken-clause-real : goal.returns-in_ok-turn-in-Taken-clause-real
returns-in_ok-turn-in-Taken-clause-real g c = real-within g.G.Tally.used g.G.Tally.total g.G.Signer.signature
    (g.V.Scheme.valid c.args.scheme.now) c.args.self (record { core = c.step.new.self }) c.args.event.now c.in-Ok.outcome
    (λ s p is rule. c.in-Ok.ensures.steps s p is rule) c.in_ok-turn-in-Taken.turn c.in_ok-turn-in-Taken.ensures.process c.requires.real
