use Rattle.proof_laws.proofs.Frames.{frame_shows}
use Rattle.proof_laws.proofs.frame_shows.Goals as goal

pub returns : goal.returns
returns c = frame_shows
