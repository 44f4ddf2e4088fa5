use Rattle.std.proofs.Common.{arith}
use Rattle.schedule_pieces.proofs.Giving.{few_of_header}
use Rattle.schedule_pieces.proofs.front.header_found.Goals as goal

pub returns-clause-few : goal.returns-clause-few
returns-clause-few c kind = few_of_header c.args.waiting.now c.in-Err.found (λ i. omega (arith, c.type_inv.waiting i)) c.in-Err.ensures kind
