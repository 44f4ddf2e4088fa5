use Rattle.std.proofs.Common.{◌∷◌, codes, map}
use Rattle.trace_defs.specs.Phrases.{number_and_colon, process_words}
use Rattle.story_words.specs.Words.{spelled}
use Rattle.story_words.proofs.Parts.{with_tail}
use Rattle.story_words.proofs.lines.event_with_processes.Goals as goal

pub returns : goal.returns
returns c =
    with_tail (codes "event") (number_and_colon c.args.n ∷ map spelled c.args.words.now)
    (process_words c.args.processes) c.args.out.now.items c.begin_event.new.out.items c.push_processes.new.out.items
    c.end_line.new.out.items
    c.in_ok-begin_event.ensures c.in_ok-push_processes.ensures c.in_ok-end_line.ensures
