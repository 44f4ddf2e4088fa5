use Rattle.store_text_laws.proofs.Reported as laws
use Rattle.store_text_laws.proofs.delivery_is_reported.Goals as goal

pub returns : goal.returns
returns c = laws.delivery_is_reported
