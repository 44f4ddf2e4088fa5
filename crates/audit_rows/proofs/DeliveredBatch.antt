-- The row of specs/DeliveredBatch.antt, computed.
use Rattle.std.proofs.Common.{refl}
use Rattle.audit_rows.proofs.Opened.{all_opened}
use Rattle.audit_rows.specs.DeliveredBatch.{sources, DeliveredBatch}

pub delivered_batch : DeliveredBatch
unfolding all_opened sources
delivered_batch = refl
