use Rattle.chain_laws.proofs.Agreeing.{chains_do_not_fork}
use Rattle.chain_laws.proofs.chains_do_not_fork.Goals as goal

pub returns : goal.returns
returns c = chains_do_not_fork
