use Rattle.proof_laws.proofs.Starts.{starts_report_views}
use Rattle.proof_laws.proofs.starts_report_views.Goals as goal

pub returns : goal.returns
returns c = starts_report_views
