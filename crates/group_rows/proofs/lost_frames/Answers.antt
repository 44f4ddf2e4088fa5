use Rattle.group_rows.proofs.LostFrames.{lost_frames}
use Rattle.group_rows.proofs.lost_frames.Goals as goal

pub returns : goal.returns
returns c = lost_frames
