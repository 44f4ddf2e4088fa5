use Rattle.audit_rows.proofs.OwnWordUnlisted.{own_word_unlisted}
use Rattle.audit_rows.proofs.own_word_unlisted.Goals as goal

pub returns : goal.returns
returns c = own_word_unlisted
