use Rattle.std.proofs.Common.{◌-◌, ◌≤◌, length}
use Rattle.node_hosts.proofs.Again.{AreEmpty}
use Rattle.node_hosts.proofs.hosts.Hosts.none_yet.Given as goal

abbrev pub invariant-places : goal.invariant-places
invariant-places l = record { empty : AreEmpty (length l.places.items) l.places.items; few : length l.places.items ≤ 64 }

abbrev pub decreases-places : goal.decreases-places
decreases-places l = 64 - length l.places.items
