use Rattle.audit_rows.proofs.OwnWordLast.{own_word_last}
use Rattle.audit_rows.proofs.own_word_last.Goals as goal

pub returns : goal.returns
returns c = own_word_last
