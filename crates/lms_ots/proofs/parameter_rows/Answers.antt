use Rattle.std.proofs.Common.{refl}
use Rattle.signature_defs.specs.Strings.{sums}
use Rattle.lms_ots.proofs.parameter_rows.Goals as goal

pub returns-clause-lengths : goal.returns-clause-lengths
returns-clause-lengths c = refl

pub returns-clause-checksums : goal.returns-clause-checksums
unfolding sums
returns-clause-checksums c = refl
