-- The row of specs/SpentTruly.antt, computed.
use Rattle.std.proofs.Common.{refl}
use Rattle.audit_rows.proofs.Opened.{all_opened}
use Rattle.audit_rows.specs.SpentTruly.{sources, SpentTruly}

pub spent_truly : SpentTruly
unfolding all_opened sources
spent_truly = refl
