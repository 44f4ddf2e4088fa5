use Rattle.std.proofs.Common.{codes}
use Rattle.trace_defs.specs.Phrases.{number_and_colon}
use Rattle.story_words.proofs.Parts.{two_and_more}
use Rattle.story_words.proofs.lines.begin_event.Goals as goal

pub returns : goal.returns
returns c =
    two_and_more (codes "event") (number_and_colon c.args.n) c.args.words.now c.args.out.now.items c.push_word.new.out.items
    c.push_next.new.out.items c.push_more.new.out.items
    c.in_ok-push_word.ensures c.in_ok-push_next.ensures c.in_ok-push_more.ensures
