use Rattle.std.proofs.Common.{length, map}
use Rattle.std.specs.Vec.Iter.{into_iter_items}
use Rattle.snapshot_lines.specs.Views.{part_as}
use Rattle.node_images.proofs.Walked.{Underway}
use Rattle.node_images.proofs.parts.judge_parts.Given as goal

-- of all parts those that are left are still to be judged
abbrev pub invariant-parts : goal.invariant-parts
invariant-parts l = Underway l.kit l.place (map part_as l.fn.parts.items) (map part_as (into_iter_items l.left)) l.all.items

abbrev pub decreases-parts : goal.decreases-parts
decreases-parts l = length (into_iter_items l.left)
