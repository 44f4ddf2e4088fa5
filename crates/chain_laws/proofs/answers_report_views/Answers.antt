use Rattle.chain_laws.proofs.Reported.{answers_report_views}
use Rattle.chain_laws.proofs.answers_report_views.Goals as goal

pub returns : goal.returns
returns c = answers_report_views
