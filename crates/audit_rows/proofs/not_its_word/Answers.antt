use Rattle.audit_rows.proofs.NotItsWord.{not_its_word}
use Rattle.audit_rows.proofs.not_its_word.Goals as goal

pub returns : goal.returns
returns c = not_its_word
