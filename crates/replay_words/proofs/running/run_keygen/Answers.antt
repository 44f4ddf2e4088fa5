use Rattle.std.proofs.Common.{sym, ◌∙◌}
use Rattle.replay_words.proofs.Stopped.{at_write, stopped_so, prefix_stays}
use Rattle.replay_words.proofs.running.run_keygen.Goals as goal

pub returns-in-Err-clause-part : goal.returns-in-Err-clause-part
returns-in-Err-clause-part g c = λ e.
    let is = at_write c.in-Err.stop (sym c.tell.ensures.status ∙ e) in
    prefix_stays c.in-Err.stop _ _ _ _ _ _ is (c.in-Err.ensures.write (stopped_so _ _ is)) c.tell.ensures.line
