use Rattle.std.proofs.Common.{sym, ◌∙◌}
use Rattle.std.proofs.lemmas.Result.{err_from_is_err_and}
use Rattle.story_lines.specs.Cursors.{left}
use Rattle.story_headers.proofs.OneTotal.{fails, is_short, is_whole}
use Rattle.story_headers.proofs.headers.plain_key.Goals as goal

pub returns-in_err-next_word : goal.returns-in_err-next_word
returns-in_err-next_word c =
    let p = err_from_is_err_and c.from_residual.result c.from_residual.ensures.1 in
    rw (p.1, p.2) (fails c.args.p (left c.args.words.now) c.in_err-next_word.field-0.0 c.in_err-next_word.ensures)

pub returns-then-is_done : goal.returns-then-is_done
returns-then-is_done c =
    rw (← is_short c.args.p (left c.args.words.now) _ _ c.in_ok-next_word.ensures
    (sym c.is_done.ensures ∙ c.if-is_done.true)) c.short_key.ensures

pub returns-else-is_done : goal.returns-else-is_done
returns-else-is_done c =
    rw (← is_whole c.args.p (left c.args.words.now) _ _ c.in_ok-next_word.ensures
    (sym c.is_done.ensures ∙ c.if-is_done.false)) c.whole_key.ensures
