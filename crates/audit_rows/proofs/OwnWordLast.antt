-- The row of specs/OwnWordLast.antt, computed.
use Rattle.std.proofs.Common.{refl}
use Rattle.audit_rows.proofs.Opened.{all_opened}
use Rattle.audit_rows.specs.OwnWordLast.{sources, OwnWordLast}

pub own_word_last : OwnWordLast
unfolding all_opened sources
own_word_last = refl
