use Rattle.std.proofs.Common.{◌≡◌, drop}
use Rattle.story_defs.specs.Stories.{line_at}
use Rattle.story_reading.proofs.assembling.line_at.Given as goal

abbrev pub invariant-marks : goal.invariant-marks
invariant-marks l = line_at l.behind (drop l.mark-index l.marks) ≡ line_at l.fn.place l.marks
