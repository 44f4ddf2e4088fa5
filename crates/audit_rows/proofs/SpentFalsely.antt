-- The row of specs/SpentFalsely.antt, computed.
use Rattle.std.proofs.Common.{refl}
use Rattle.audit_rows.proofs.Opened.{all_opened}
use Rattle.audit_rows.specs.SpentFalsely.{sources, SpentFalsely}

pub spent_falsely : SpentFalsely
unfolding all_opened sources
spent_falsely = refl
