use Rattle.member_laws.proofs.Ranges.{due_is_in_range}
use Rattle.member_laws.proofs.due_is_in_range.Goals as goal

pub returns : goal.returns
returns c = due_is_in_range
