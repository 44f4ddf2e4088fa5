use Rattle.std.proofs.Common.{◌≡◌, ◌++◌, map}
use Rattle.happenings.specs.Reported.{happening}
use Rattle.picture_defs.specs.Pictures.{rows_in}
use Rattle.story_picture.specs.Views.{row}
use Rattle.story_picture.proofs.rows.add_event.Given as goal

abbrev pub invariant-reported : goal.invariant-reported
invariant-reported l = map row l.rows.items ≡ map row l.fn.rows.items ++ rows_in l.event (map happening l.yielded)
