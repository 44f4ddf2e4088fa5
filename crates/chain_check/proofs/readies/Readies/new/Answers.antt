use Rattle.chain_check.proofs.Tables.{none-said}
use Rattle.chain_check.proofs.readies.Readies.new.Goals as goal

pub returns : goal.returns
returns c = λ h e. none-said h c.args.view.now e
