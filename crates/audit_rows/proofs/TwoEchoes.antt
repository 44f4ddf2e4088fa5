-- The row of specs/TwoEchoes.antt, computed.
use Rattle.std.proofs.Common.{refl}
use Rattle.audit_rows.proofs.Opened.{all_opened}
use Rattle.audit_rows.specs.TwoEchoes.{sources, TwoEchoes}

pub two_echoes : TwoEchoes
unfolding all_opened sources
two_echoes = refl
