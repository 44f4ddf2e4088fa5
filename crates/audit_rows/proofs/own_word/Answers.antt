use Rattle.audit_rows.proofs.OwnWord.{own_word}
use Rattle.audit_rows.proofs.own_word.Goals as goal

pub returns : goal.returns
returns c = own_word
