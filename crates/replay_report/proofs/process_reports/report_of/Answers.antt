use Rattle.replay_report.proofs.ProcessReport.{stands}
use Rattle.replay_report.proofs.process_reports.report_of.Goals as goal

pub returns : goal.returns
returns c = λ s d plays.
    let is = plays.core.is in
    stands d.now _ (c.account.ensures s d.now is) (c.phase.ensures s d.now is) (c.used.ensures s d.now is)
    (c.liars.ensures s d.now is) (c.halted.ensures s d.now is)
