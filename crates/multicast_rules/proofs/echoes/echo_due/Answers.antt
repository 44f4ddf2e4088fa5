use Rattle.std.proofs.Common.{refl}
use Rattle.group_defs.specs.Process.{Echoes}
use Rattle.multicast_rules.proofs.Telling.{outside, ended}
use Rattle.multicast_rules.proofs.Waits.{echo-due}
use Rattle.multicast_rules.proofs.echoes.echo_due.Goals as goal

pub returns-in_err-own-clause-least : goal.returns-in_err-own-clause-least
returns-in_err-own-clause-least c = λ s p pool tells. rw c.from_residual.ensures
    (outside s p c.args.pool.now.pool c.args.own.now tells Echoes c.in_err-own.was)

pub returns-then-own-clause-least : goal.returns-then-own-clause-least
returns-then-own-clause-least c = λ s p pool tells. ended s p c.args.pool.now.pool c.args.own.now tells Echoes refl c.if-own.true

pub returns-clause-least : goal.returns-clause-least
returns-clause-least c = λ s p pool tells. echo-due s p c.args.pool.now.pool c.args.own.now c.in_ok-own.field-0 c.first_waiting.result pool
    tells c.in_ok-own.was c.if-own.false c.first_waiting.ensures
