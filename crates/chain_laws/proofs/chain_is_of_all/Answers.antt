use Rattle.chain_laws.proofs.Agreeing.{chain_is_of_all}
use Rattle.chain_laws.proofs.chain_is_of_all.Goals as goal

pub returns : goal.returns
returns c = chain_is_of_all
