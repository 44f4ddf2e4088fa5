use Rattle.std.proofs.Common.{◌∷◌, codes, map}
use Rattle.std.specs.Fmt.{decimal}
use Rattle.trace_defs.specs.Phrases.{payload_words}
use Rattle.story_words.specs.Words.{spelled}
use Rattle.story_words.proofs.Parts.{with_tail}
use Rattle.story_words.proofs.lines.said_with_payload.Goals as goal

pub returns : goal.returns
returns c =
    with_tail (codes " ") (decimal c.args.at ∷ map spelled c.args.words.now)
    (payload_words c.args.payload.now) c.args.out.now.items c.begin_said.new.out.items c.push_payload.new.out.items
    c.end_line.new.out.items
    c.in_ok-begin_said.ensures c.in_ok-push_payload.ensures c.in_ok-end_line.ensures
