-- The row of specs/NotItsWord.antt, computed.
use Rattle.std.proofs.Common.{refl}
use Rattle.audit_rows.proofs.Opened.{all_opened}
use Rattle.audit_rows.specs.NotItsWord.{sources, NotItsWord}

pub not_its_word : NotItsWord
unfolding all_opened sources
not_its_word = refl
