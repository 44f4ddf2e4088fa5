use Rattle.group_rows.proofs.OneMember.{one_member}
use Rattle.group_rows.proofs.one_member.Goals as goal

pub returns : goal.returns
returns c = one_member
