use Rattle.std.proofs.Common.{ℕ, List, ◌++◌, ◌∙◌}
use Rattle.std.specs.List.{flat_map}
use Rattle.report_lines.proofs.Pieces.{behind}
use Rattle.node_text.specs.Words.{spelled_after}
use Rattle.node_text.proofs.Written.{goes_on-by, goes_on-more, goes_on-same, line-written, on_err}
use Rattle.node_text.proofs.words.begin_line.Goals as goal

pub returns-clause-pushed : goal.returns-clause-pushed
returns-clause-pushed c =
    line-written c.args.name.now c.args.words.now c.args.out.now.items c.push_letters.new.out.items c.push_words.new.out.items
    c.push_byte.new.out.items c.in_ok-push_letters.ensures.pushed c.in_ok-push_words.ensures.pushed c.in_ok-push_byte.ensures.pushed

pub returns-in_err-push_letters-clause-begun : goal.returns-in_err-push_letters-clause-begun
returns-in_err-push_letters-clause-begun c =
    on_err _ (goes_on-same c.args.out.now.items c.push_letters.new.out.items c.in_err-push_letters.ensures.unchanged)

pub returns-in_err-push_words-clause-begun : goal.returns-in_err-push_words-clause-begun
returns-in_err-push_words-clause-begun c =
    on_err _ (goes_on-more c.args.out.now.items _ _ c.push_words.new.out.items c.in_ok-push_letters.ensures.pushed
    c.in_err-push_words.ensures.begun)

pub returns-in_err-push_byte-clause-begun : goal.returns-in_err-push_byte-clause-begun
returns-in_err-push_byte-clause-begun c =
    let words : List ℕ = flat_map spelled_after c.args.words.now in
    on_err _ (goes_on-by c.args.out.now.items (c.args.name.now ++ words) c.push_byte.new.out.items
    (c.in_err-push_byte.ensures.unchanged
    ∙ behind c.args.out.now.items c.args.name.now words c.push_letters.new.out.items c.push_words.new.out.items
    c.in_ok-push_letters.ensures.pushed c.in_ok-push_words.ensures.pushed))
