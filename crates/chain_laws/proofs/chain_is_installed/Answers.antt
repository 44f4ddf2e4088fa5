use Rattle.chain_laws.proofs.Agreeing.{chain_is_installed}
use Rattle.chain_laws.proofs.chain_is_installed.Goals as goal

pub returns : goal.returns
returns c = chain_is_installed
