use Rattle.replay_defs.specs.Schedules.{most_bytes}
use Rattle.replay_words.proofs.Runs.{as_replayed, as_refused}
use Rattle.replay_words.proofs.replaying.replay_input.Goals as goal

pub returns-clause-report : goal.returns-clause-report
unfolding most_bytes
returns-clause-report g c =
    let was = c.in_ok-replay.ensures.fed in
    as_replayed _ _ was.input was.taken was.ended c.args.short (λ report. report.items) c.in_ok-report_or_line.field-0
    (c.in_ok-report_or_line.ensures.report was.input was.fed)

pub returns-clause-line : goal.returns-clause-line
unfolding most_bytes
returns-clause-line g c =
    let was = c.in_ok-replay.ensures.fed in
    as_refused _ _ was.input was.taken was.ended (λ line. line.items) c.in_ok-report_or_line.field-0
    (c.in_ok-report_or_line.ensures.line was.input was.fed)
