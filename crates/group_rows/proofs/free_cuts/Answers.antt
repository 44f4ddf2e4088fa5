use Rattle.group_rows.proofs.Cuts.{free_cuts}
use Rattle.group_rows.proofs.free_cuts.Goals as goal

pub returns : goal.returns
returns c = free_cuts
