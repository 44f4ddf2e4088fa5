use Rattle.store_laws.proofs.Answers as laws
use Rattle.store_laws.proofs.reply_is_answer.Goals as goal

pub returns : goal.returns
returns c = laws.reply_is_answer
