use Rattle.std.proofs.Common.{arith}
use Rattle.witness_words.proofs.writing.push_line.Goals as goal

pub returns-clause-bytes : goal.returns-clause-bytes
returns-clause-bytes c = λ i. omega (arith, c.type_inv.frame i)
