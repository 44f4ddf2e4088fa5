use Rattle.store_text_laws.proofs.Reported as laws
use Rattle.store_text_laws.proofs.accepted_is_reported.Goals as goal

pub returns : goal.returns
returns c = laws.accepted_is_reported
