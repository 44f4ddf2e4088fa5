use Rattle.std.proofs.Common.{refl}
use Rattle.group_defs.specs.Process.{Places}
use Rattle.multicast_rules.proofs.Telling.{outside, ended}
use Rattle.multicast_rules.proofs.Placing.{place-due}
use Rattle.multicast_rules.proofs.places.place_due.Goals as goal

pub returns-in_err-own : goal.returns-in_err-own
returns-in_err-own c = λ s p pool tells. rw c.from_residual.ensures
    (outside s p c.args.pool.now.pool c.args.own.now tells Places c.in_err-own.was)

pub returns-then-own : goal.returns-then-own
returns-then-own c = λ s p pool tells. ended s p c.args.pool.now.pool c.args.own.now tells Places refl c.if-own.true

pub returns : goal.returns
returns c = λ s p pool tells. place-due s p c.args.pool.now.pool c.args.own.now c.in_ok-own.field-0 c.first_fitting.result pool tells
    c.in_ok-own.was c.if-own.false (c.first_fitting.ensures.least pool) c.first_fitting.ensures.batch
