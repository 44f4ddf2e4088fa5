-- The row of specs/LiarListed.antt, computed.
use Rattle.std.proofs.Common.{refl}
use Rattle.audit_rows.proofs.Opened.{all_opened}
use Rattle.audit_rows.specs.LiarListed.{sources, LiarListed}

pub liar_listed : LiarListed
unfolding all_opened sources
liar_listed = refl
