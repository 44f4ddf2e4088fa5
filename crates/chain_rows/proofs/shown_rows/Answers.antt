use Rattle.chain_rows.proofs.Shown.{shown_rows}
use Rattle.chain_rows.proofs.shown_rows.Goals as goal

pub returns : goal.returns
returns c = shown_rows
