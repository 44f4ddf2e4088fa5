-- The row of specs/DeliveredInAll.antt, computed.
use Rattle.std.proofs.Common.{refl}
use Rattle.audit_rows.proofs.Opened.{all_opened}
use Rattle.audit_rows.specs.DeliveredInAll.{sources, DeliveredInAll}

pub delivered_in_all : DeliveredInAll
unfolding all_opened sources
delivered_in_all = refl
