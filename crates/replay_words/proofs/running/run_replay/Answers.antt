use Rattle.replay_words.proofs.Runs.{replay_is_reported, reported_in_part, stopped, replayed_reported}
use Rattle.replay_words.proofs.running.run_replay.Goals as goal

pub returns-in-Ok-Ok-clause-done : goal.returns-in-Ok-Ok-clause-done
returns-in-Ok-Ok-clause-done g c = λ zero.
    replay_is_reported c.args.short _ _ _ _ c.in-Ok-Ok.report.items (rw c.in-Ok-Ok.field-0-is at c.in-Ok-Ok.ensures.report)
    (rw c.deref.ensures.value at c.give.ensures.done zero)

pub returns-in-Ok-Ok-clause-part : goal.returns-in-Ok-Ok-clause-part
returns-in-Ok-Ok-clause-part g c = λ four.
    reported_in_part c.args.short _ _ _ _ c.in-Ok-Ok.report.items (rw c.in-Ok-Ok.field-0-is at c.in-Ok-Ok.ensures.report)
    (rw c.deref.ensures.value at c.give.ensures.part four)

pub returns-in-Ok-Ok-clause-refuses : goal.returns-in-Ok-Ok-clause-refuses
returns-in-Ok-Ok-clause-refuses g c = λ reported calm.
    let done = rw c.in-Ok-Ok.field-0-is at c.in-Ok-Ok.ensures.report in absurd (replayed_reported c.args.short _ _ done.0 reported)

pub returns-in-Ok-Err-clause-input : goal.returns-in-Ok-Err-clause-input
returns-in-Ok-Err-clause-input g c = λ _.
    stopped _ _ _ _ c.in-Ok-Err.line.items _ _ (rw c.in-Ok-Err.field-0-is at c.in-Ok-Err.ensures.line)
    (rw c.deref-in-Ok-Err.ensures.value at c.say.ensures)
