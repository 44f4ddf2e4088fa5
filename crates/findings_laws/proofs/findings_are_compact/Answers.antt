use Rattle.findings_laws.proofs.Texts.{findings_are_compact}
use Rattle.findings_laws.proofs.findings_are_compact.Goals as goal

pub returns : goal.returns
returns c = findings_are_compact
