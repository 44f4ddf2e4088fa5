use Rattle.std.proofs.Common.{sym, ◌∙◌}
use Rattle.std.proofs.lemmas.Result.{err_from_is_err_and}
use Rattle.story_lines.specs.Cursors.{left}
use Rattle.story_statements.proofs.OneWord.{fails, is_bytes, is_spelled, value_alone}
use Rattle.story_statements.proofs.reading.statement.Goals as goal

pub returns-in_err-next_word : goal.returns-in_err-next_word
returns-in_err-next_word c =
    let p = err_from_is_err_and c.from_residual.result c.from_residual.ensures.1 in
    rw (p.1, p.2) (fails (left c.args.words.now) c.in_err-next_word.field-0.0 c.in_err-next_word.ensures)

pub returns-then-is_done : goal.returns-then-is_done
returns-then-is_done c =
    rw (← is_bytes (left c.args.words.now) _ _ c.in_ok-next_word.ensures (sym c.is_done.ensures ∙ c.if-is_done.true))
    (value_alone (λ bytes. bytes.items) _ c.reported.result _ c.reported.ensures)

pub returns-else-is_done : goal.returns-else-is_done
returns-else-is_done c =
    rw (← is_spelled (left c.args.words.now) _ _ c.in_ok-next_word.ensures (sym c.is_done.ensures ∙ c.if-is_done.false)) c.worded.ensures
