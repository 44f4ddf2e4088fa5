use Rattle.node_service.specs.Words.{pids_left}
use Rattle.store_service.proofs.Begun.{SoFar}
use Rattle.store_service.proofs.beginning.begin_all.Given as goal

-- some of the hosted processes are served
abbrev pub invariant-hosts : goal.invariant-hosts
invariant-hosts l = SoFar l.kit l.hosts l.servers.items (pids_left l.p-iterator)
