use Rattle.group_rows.proofs.HalfCertified.{half_certified}
use Rattle.group_rows.proofs.half_certified.Goals as goal

pub returns : goal.returns
returns c = half_certified
