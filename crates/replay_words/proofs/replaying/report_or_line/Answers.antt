use Rattle.replay_run.proofs.Feeding.{fed_bytes}
use Rattle.replay_words.proofs.Runs.{tells, none_reported}
use Rattle.replay_words.proofs.replaying.report_or_line.Goals as goal

pub returns-in-Ok-clause-report : goal.returns-in-Ok-clause-report
returns-in-Ok-clause-report c = λ fed has.
    let reported = tells c.args.short fed c.in-Ok.report.items (fed_bytes c.args.replay fed has)
    (rw c.in-Ok.is at c.in_ok-report.ensures.report fed has) in
    (reported.run, reported.reported_is)

pub returns-in_ok-stop_line-in-Err-clause-line : goal.returns-in_ok-stop_line-in-Err-clause-line
returns-in_ok-stop_line-in-Err-clause-line c = λ fed has.
    none_reported c.args.short fed _ _ (rw c.in-Err.is at c.in_ok-report.ensures.stops fed has) c.in_ok-stop_line-in-Err.ensures
