use Rattle.node_text.proofs.Written.{goes_on-more, on_err}
use Rattle.node_text.proofs.words.push_processes.Goals as goal

pub returns-in_err-push_digits-clause-begun : goal.returns-in_err-push_digits-clause-begun
returns-in_err-push_digits-clause-begun c =
    on_err _ (goes_on-more c.args.out.now.items _ _ c.push_digits.new.out.items c.loop-process.invariant c.in_err-push_digits.ensures.begun)
