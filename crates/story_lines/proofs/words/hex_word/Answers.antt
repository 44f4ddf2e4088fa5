use Rattle.std.proofs.Common.{ap}
use Rattle.story_defs.proofs.HexWords.{spelled_again}
use Rattle.story_lines.specs.Faults.{reported}
use Rattle.story_lines.proofs.HexRead.{not_read}
use Rattle.story_lines.proofs.words.hex_word.Goals as goal

pub returns-in-Ok : goal.returns-in-Ok
returns-in-Ok c = ap (reported c.args.x) (spelled_again c.args.word.now c.in-Ok.found.items c.in-Ok.ensures.read)

pub returns-in-Err-NoBytes : goal.returns-in-Err-NoBytes
returns-in-Err-NoBytes c = ap (reported c.args.x)
    (not_read c.args.word.now c.byte_list.result _ c.byte_list.ensures.none c.in-Err-NoBytes.is c.in-Err-NoBytes.field-0-is)
