use Rattle.chain_rows.proofs.Frames.{frame_rows}
use Rattle.chain_rows.proofs.frame_rows.Goals as goal

pub returns : goal.returns
returns c = frame_rows
