use Rattle.schedule_laws.proofs.Pieces.{fault_is_final}
use Rattle.schedule_laws.proofs.fault_is_final.Goals as goal

pub returns : goal.returns
returns c = fault_is_final
