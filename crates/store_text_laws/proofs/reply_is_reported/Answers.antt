use Rattle.store_text_laws.proofs.Reported as laws
use Rattle.store_text_laws.proofs.reply_is_reported.Goals as goal

pub returns : goal.returns
returns c = laws.reply_is_reported
