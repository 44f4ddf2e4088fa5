-- The row of specs/OwnWordUnlisted.antt, computed.
use Rattle.std.proofs.Common.{refl}
use Rattle.audit_rows.proofs.Opened.{all_opened}
use Rattle.audit_rows.specs.OwnWordUnlisted.{sources, OwnWordUnlisted}

pub own_word_unlisted : OwnWordUnlisted
unfolding all_opened sources
own_word_unlisted = refl
