use Rattle.std.proofs.Common.{sym, ◌∙◌, arith}
use Rattle.sent_claims.proofs.Numbers.{on-end}
use Rattle.sent_claims.proofs.order.is_below.Goals as goal

pub returns : goal.returns
returns c = sym (on-end c.args.a.now c.args.b.now c.numbers.i (omega arith) (omega arith) (omega arith)) ∙ c.numbers.invariant
