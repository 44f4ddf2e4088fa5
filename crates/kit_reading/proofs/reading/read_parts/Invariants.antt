use Rattle.std.proofs.Common.{◌≡◌, ◌+◌, length}
use Rattle.text_codec.specs.Views.{parts_left}
use Rattle.text_defs.specs.Words.{parts_of}
use Rattle.kit_defs.specs.KitReading.{kit_of, lines_at}
use Rattle.kit_reading.proofs.reading.read_parts.Given as goal

abbrev pub invariant-lines : goal.invariant-lines
invariant-lines l = record {
  so_far : lines_at l.number l.draft (parts_left l.lines) ≡ kit_of l.text;
  count : l.number + length (parts_left l.lines) ≡ length (parts_of l.text) + 1;
}

abbrev pub decreases-lines : goal.decreases-lines
decreases-lines l = length (parts_left l.lines)
