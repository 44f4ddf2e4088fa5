use Rattle.safety_laws.proofs.Agreeing.{one_payload_at_the_end}
use Rattle.safety_laws.proofs.one_payload_at_the_end.Goals as goal

pub returns : goal.returns
returns c = one_payload_at_the_end
