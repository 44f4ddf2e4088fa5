use Rattle.audit_rows.proofs.FrameFirst.{frame_first}
use Rattle.audit_rows.proofs.frame_first.Goals as goal

pub returns : goal.returns
returns c = frame_first
