use Rattle.std.proofs.Common.{◌∷◌, ◌++◌, List, codes, map, ap, ◌∙◌}
use Rattle.std.specs.Fmt.{decimal}
use Rattle.message_defs.specs.Statements.{Message}
use Rattle.trace_defs.specs.Phrases.{message_word}
use Rattle.story_words.specs.Words.{spelled}
use Rattle.story_words.proofs.Parts.{after_spaces, with_tail}
use Rattle.story_words.proofs.lines.said_with_batch.Goals as goal

pub returns : goal.returns
returns c =
    with_tail (codes " ") (decimal c.args.at ∷ map spelled c.args.words.now)
    (map message_word c.args.batch.now) c.args.out.now.items c.begin_said.new.out.items c.push_messages.new.out.items
    c.end_line.new.out.items c.in_ok-begin_said.ensures
    (c.in_ok-push_messages.ensures ∙ ap
    (λ (ms : List Message). c.begin_said.new.out.items ++ after_spaces (map message_word ms)) c.messages.ensures.list)
    c.in_ok-end_line.ensures
