use Rattle.replay_report.proofs.reporting.push_player_short.Goals as goal

pub returns : goal.returns
returns c = λ s d plays. c.push_process.ensures d.now (c.report_of.ensures s d plays)
