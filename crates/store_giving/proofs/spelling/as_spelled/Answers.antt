use Rattle.std.proofs.Common.{arith}
use Rattle.store_giving.proofs.Spelled.{read-spelling}
use Rattle.store_giving.proofs.spelling.as_spelled.Goals as goal

pub returns-clause-spelled : goal.returns-clause-spelled
returns-clause-spelled c = read-spelling c.args.bytes.now (λ i. omega (arith, c.type_inv.bytes i)) c.requires
