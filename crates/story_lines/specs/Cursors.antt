-- The words that a cursor has left, as plain data.
use Rattle.text_codec.specs.Views.{parts_left}
use Rattle.story_defs.specs.Words as plain
use Rattle.story_lines.specs.declared.words.Words.{Words}

abbrev pub left : Words → plain.Words
left words = parts_left words.parts
