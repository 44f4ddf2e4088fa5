use Rattle.std.proofs.Common.{◌≡◌, map, take}
use Rattle.picture_defs.specs.Pictures as pictures
use Rattle.story_picture.specs.Views.{row}
use Rattle.story_picture.proofs.arrows.sent_rows.Given as goal

abbrev pub invariant-loop-k : goal.invariant-loop-k
invariant-loop-k l = l.sent.items ≡ pictures.sent_rows (map row (take l.k l.rows))
