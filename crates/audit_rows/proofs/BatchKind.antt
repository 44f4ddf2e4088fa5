-- The row of specs/BatchKind.antt, computed.
use Rattle.std.proofs.Common.{refl}
use Rattle.audit_rows.proofs.Opened.{all_opened}
use Rattle.audit_rows.specs.BatchKind.{sources, BatchKind}

pub batch_kind : BatchKind
unfolding all_opened sources
batch_kind = refl
