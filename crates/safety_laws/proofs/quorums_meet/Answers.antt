use Rattle.safety_laws.proofs.Quorums.{quorums_meet}
use Rattle.safety_laws.proofs.quorums_meet.Goals as goal

pub returns : goal.returns
returns c = quorums_meet
