-- The row of specs/NotHosted.antt, computed.
use Rattle.std.proofs.Common.{refl}
use Rattle.audit_rows.proofs.Opened.{all_opened}
use Rattle.audit_rows.specs.NotHosted.{sources, NotHosted}

pub not_hosted : NotHosted
unfolding all_opened sources
not_hosted = refl
