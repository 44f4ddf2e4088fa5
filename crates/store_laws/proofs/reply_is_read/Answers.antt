use Rattle.store_laws.proofs.RecordGrammar as laws
use Rattle.store_laws.proofs.reply_is_read.Goals as goal

pub returns : goal.returns
returns c = laws.reply_is_read
