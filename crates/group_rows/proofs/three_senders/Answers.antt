use Rattle.group_rows.proofs.ThreeSenders.{three_senders}
use Rattle.group_rows.proofs.three_senders.Goals as goal

pub returns : goal.returns
returns c = three_senders
