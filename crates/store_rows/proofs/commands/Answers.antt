use Rattle.store_rows.proofs.EachCommand as laws
use Rattle.store_rows.proofs.commands.Goals as goal

pub returns : goal.returns
returns c = laws.commands
