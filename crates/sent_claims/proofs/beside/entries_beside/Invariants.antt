use Rattle.sent_claims.specs.Entries.{StandFrom}
use Rattle.sent_claims.proofs.beside.entries_beside.Given as goal

abbrev pub invariant-places : goal.invariant-places
invariant-places l = StandFrom l.cut l.pool.pool.heard l.left l.entries.items

abbrev pub decreases-places : goal.decreases-places
decreases-places l = l.left
