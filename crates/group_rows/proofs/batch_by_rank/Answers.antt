use Rattle.group_rows.proofs.BatchByRank.{batch_by_rank}
use Rattle.group_rows.proofs.batch_by_rank.Goals as goal

pub returns : goal.returns
returns c = batch_by_rank
