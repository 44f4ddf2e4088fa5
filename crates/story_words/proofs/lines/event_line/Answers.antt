use Rattle.std.proofs.Common.{◌∷◌, codes, map}
use Rattle.trace_defs.specs.Phrases.{number_and_colon}
use Rattle.story_words.specs.Words.{spelled}
use Rattle.story_words.proofs.Parts.{ended}
use Rattle.story_words.proofs.lines.event_line.Goals as goal

pub returns : goal.returns
returns c =
    ended (codes "event" ∷ number_and_colon c.args.n
    ∷ map spelled c.args.words.now) c.args.out.now.items c.begin_event.new.out.items c.end_line.new.out.items c.in_ok-begin_event.ensures
    c.in_ok-end_line.ensures
