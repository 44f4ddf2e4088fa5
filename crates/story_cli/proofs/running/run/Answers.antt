use Rattle.std.proofs.lemmas.Result.{err_from_is_err_and}
use Rattle.story_cli.proofs.Stopped.{passed_on}
use Rattle.story_cli.proofs.running.run.Goals as goal

pub returns-in_err-made-clause-story : goal.returns-in_err-made-clause-story
returns-in_err-made-clause-story g c = λ fault is.
    let p = err_from_is_err_and c.from_residual.result c.from_residual.ensures.1 in
    c.in_err-made.ensures.story fault (passed_on c.from_residual.result c.in_err-made.field-0.0 _ (rw p.2 at p.1) is)

pub returns-in_err-made-clause-schedule : goal.returns-in_err-made-clause-schedule
returns-in_err-made-clause-schedule g c = λ fault is.
    let p = err_from_is_err_and c.from_residual.result c.from_residual.ensures.1 in
    c.in_err-made.ensures.schedule fault (passed_on c.from_residual.result c.in_err-made.field-0.0 _ (rw p.2 at p.1) is)
