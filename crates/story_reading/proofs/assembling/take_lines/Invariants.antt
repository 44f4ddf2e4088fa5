use Rattle.std.proofs.Common.{◌≡◌, ◌+◌, length}
use Rattle.text_codec.specs.Views.{parts_left}
use Rattle.text_defs.specs.Words.{parts_of}
use Rattle.story_defs.specs.Stories.{no_lines, take_lines}
use Rattle.story_reading.specs.Views.{draft}
use Rattle.story_reading.proofs.assembling.take_lines.Given as goal

abbrev pub invariant-lines : goal.invariant-lines
invariant-lines l = record {
  so_far : take_lines l.number (draft l.draft) (parts_left l.lines) ≡ take_lines 1 no_lines (parts_of l.text);
  count : l.number + length (parts_left l.lines) ≡ length (parts_of l.text) + 1;
}

abbrev pub decreases-lines : goal.decreases-lines
decreases-lines l = length (parts_left l.lines)
