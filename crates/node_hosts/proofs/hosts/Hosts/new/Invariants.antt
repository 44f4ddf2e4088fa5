use Rattle.node_hosts.proofs.Standing.{Filled}
use Rattle.node_hosts.proofs.hosts.Hosts.new.Given as goal

abbrev pub invariant-loop-number : goal.invariant-loop-number
invariant-loop-number l = Filled l.kit l.batch_limit l.number l.places.items
