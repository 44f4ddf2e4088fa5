use Rattle.node_text.proofs.Written.{goes_on-more, on_err}
use Rattle.node_text.proofs.words.push_words.Goals as goal

pub returns-in_err-push_word-clause-begun : goal.returns-in_err-push_word-clause-begun
returns-in_err-push_word-clause-begun c =
    on_err _ (goes_on-more c.args.out.now.items _ _ c.push_word.new.out.items c.loop-word.invariant c.in_err-push_word.ensures.begun)
