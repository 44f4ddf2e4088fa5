use Rattle.proof_laws.proofs.Chains.{lines_are_a_chain}
use Rattle.proof_laws.proofs.lines_are_a_chain.Goals as goal

pub returns : goal.returns
returns c = lines_are_a_chain
