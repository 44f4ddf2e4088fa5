use Rattle.chain_laws.proofs.Agreeing.{genesis_is_of_all}
use Rattle.chain_laws.proofs.genesis_is_of_all.Goals as goal

pub returns : goal.returns
returns c = genesis_is_of_all
