use Rattle.std.proofs.Common.{◌≡◌, ◌-◌, map}
use Rattle.snapshot_defs.specs.Steps.{times_at}
use Rattle.snapshot_rp.proofs.Lists.{after}
use Rattle.snapshot_rp.proofs.entries.entries.Given as goal

-- what was read, and the reading of the others, are the reading of all
abbrev pub invariant-loop-position : goal.invariant-loop-position
invariant-loop-position g l =
    after (map g.T.Entry.plain l.all.items) (times_at (g.T.Entry.step l.reading.version) l.position (l.count - l.position) l.cursor.rest.now)
    ≡ times_at (g.T.Entry.step l.reading.version) 0 l.count l.fn.cursor.rest.now
