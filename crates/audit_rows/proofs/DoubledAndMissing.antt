-- The row of specs/DoubledAndMissing.antt, computed.
use Rattle.std.proofs.Common.{refl}
use Rattle.audit_rows.proofs.Opened.{all_opened}
use Rattle.audit_rows.specs.DoubledAndMissing.{sources, DoubledAndMissing}

pub doubled_and_missing : DoubledAndMissing
unfolding all_opened sources
doubled_and_missing = refl
