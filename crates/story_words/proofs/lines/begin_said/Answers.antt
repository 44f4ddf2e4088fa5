use Rattle.std.proofs.Common.{◌∷◌, ◌++◌, codes, ap, ◌∙◌}
use Rattle.std.specs.Fmt.{decimal}
use Rattle.text_defs.specs.Words.{space}
use Rattle.story_words.specs.declared.words.Word.{Word}
use Rattle.story_words.specs.Words.{spelled}
use Rattle.story_words.proofs.Parts.{two_and_more}
use Rattle.story_words.proofs.lines.begin_said.Goals as goal

pub returns : goal.returns
returns c =
    two_and_more (codes " ") (decimal c.args.at) c.args.words.now c.args.out.now.items c.push_word.new.out.items c.push_next.new.out.items
    c.push_more.new.out.items
    c.in_ok-push_word.ensures (c.in_ok-push_next.ensures ∙ ap
    (λ (w : Word). c.push_word.new.out.items ++ space ∷ spelled w) c.process_word.ensures) c.in_ok-push_more.ensures
