use Rattle.safety_laws.proofs.Agreeing.{one_payload}
use Rattle.safety_laws.proofs.one_payload.Goals as goal

pub returns : goal.returns
returns c = one_payload
