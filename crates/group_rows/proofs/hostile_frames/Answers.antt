use Rattle.group_rows.proofs.HostileFrames.{hostile_frames}
use Rattle.group_rows.proofs.hostile_frames.Goals as goal

pub returns : goal.returns
returns c = hostile_frames
