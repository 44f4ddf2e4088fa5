use Rattle.std.proofs.Common.{◌≡◌, drop, map}
use Rattle.snapshot_rp.specs.Views.{perceived}
use Rattle.image_parts.specs.Walks.{with_entries}
use Rattle.image_parts.proofs.asked.put_each.Given as goal

abbrev pub invariant-loop-entry : goal.invariant-loop-entry
invariant-loop-entry l = with_entries l.number l.set (map perceived (drop l.entry-index l.perceived))
    ≡ with_entries l.number l.fn.set (map perceived l.perceived)
