use Rattle.std.proofs.Common.{◌∙◌}
use Rattle.node_text.proofs.Written.{goes_on-by, goes_on-same, on_err}
use Rattle.node_text.proofs.words.push_text.Goals as goal

pub returns-in_err-push_byte-clause-begun : goal.returns-in_err-push_byte-clause-begun
returns-in_err-push_byte-clause-begun c =
    on_err _ (goes_on-same c.args.out.now.items c.push_byte.new.out.items c.in_err-push_byte.ensures.unchanged)

pub returns-in_err-push_letters-clause-begun : goal.returns-in_err-push_letters-clause-begun
returns-in_err-push_letters-clause-begun c =
    on_err _ (goes_on-by c.args.out.now.items _ c.push_letters.new.out.items
    (c.in_err-push_letters.ensures.unchanged ∙ c.in_ok-push_byte.ensures.pushed))
