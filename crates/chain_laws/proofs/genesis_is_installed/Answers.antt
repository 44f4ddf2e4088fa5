use Rattle.chain_laws.proofs.Agreeing.{genesis_is_installed}
use Rattle.chain_laws.proofs.genesis_is_installed.Goals as goal

pub returns : goal.returns
returns c = genesis_is_installed
