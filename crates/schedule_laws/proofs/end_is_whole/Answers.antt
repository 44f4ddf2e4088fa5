use Rattle.schedule_laws.proofs.Pieces.{end_is_whole}
use Rattle.schedule_laws.proofs.end_is_whole.Goals as goal

pub returns : goal.returns
returns c = end_is_whole
