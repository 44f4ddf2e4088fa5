use Rattle.std.proofs.Common.{[], codes, map}
use Rattle.std.specs.Fmt.{decimal}
use Rattle.text_defs.specs.Words.{line_text}
use Rattle.trace_defs.specs.Events.{genesis_line}
use Rattle.story_words.proofs.Parts.{with_tail}
use Rattle.story_trace.proofs.Behind.{single}
use Rattle.story_trace.proofs.events.push_genesis.Goals as goal

pub returns : goal.returns
returns c =
    single line_text (genesis_line c.args.members.now) c.args.out.now.items c.end_line.new.out.items
    (with_tail (codes "view 0:") []
    (map decimal c.args.members.now) c.args.out.now.items c.push_word.new.out.items c.push_members.new.out.items c.end_line.new.out.items
    c.in_ok-push_word.ensures c.in_ok-push_members.ensures c.in_ok-end_line.ensures)
