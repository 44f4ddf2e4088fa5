use Rattle.std.proofs.Common.{◌≡◌, map, length}
use Rattle.happenings.specs.Reported.{happening}
use Rattle.picture_defs.specs.Pictures as plain
use Rattle.story_picture.specs.Views.{row}
use Rattle.story_picture.proofs.rows.rows_of.Given as goal

abbrev pub invariant-events : goal.invariant-events
invariant-events l =
    (map row l.rows.items ≡ plain.rows_of (map (λ t. map happening t.items) l.yielded)) × (l.number ≡ length l.yielded)
