use Rattle.audit_laws.proofs.Headline.{findings_headline}
use Rattle.audit_laws.proofs.findings_headline.Goals as goal

pub returns : goal.returns
returns c = findings_headline
