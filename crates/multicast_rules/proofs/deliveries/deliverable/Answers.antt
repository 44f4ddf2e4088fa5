use Rattle.std.proofs.Common.{true, false}
use Rattle.multicast_rules.proofs.Certified.{delivers}
use Rattle.multicast_rules.proofs.deliveries.deliverable.Goals as goal

pub returns-then-is_held : goal.returns-then-is_held
returns-then-is_held c = λ p has same. delivers p c.args.own.now c.args.pool.now.pool c.args.limit c.in_ok-batch.batch true has same
    c.if-limit-own.false c.in_ok-batch.ensures c.if-is_held.ensures

pub returns-else-is_held : goal.returns-else-is_held
returns-else-is_held c = λ p has same. delivers p c.args.own.now c.args.pool.now.pool c.args.limit c.in_ok-batch.batch false has same
    c.if-limit-own.false c.in_ok-batch.ensures c.if-is_held.ensures
