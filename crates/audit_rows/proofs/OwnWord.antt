-- The row of specs/OwnWord.antt, computed.
use Rattle.std.proofs.Common.{refl}
use Rattle.audit_rows.proofs.Opened.{all_opened}
use Rattle.audit_rows.specs.OwnWord.{sources, OwnWord}

pub own_word : OwnWord
unfolding all_opened sources
own_word = refl
