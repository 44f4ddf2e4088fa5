use Rattle.std.proofs.Common.{arith}
use Rattle.proof_lines.proofs.lines.push_frame.Goals as goal

pub returns-clause-bytes : goal.returns-clause-bytes
returns-clause-bytes c = λ i. omega (arith, c.type_inv.frame i)
