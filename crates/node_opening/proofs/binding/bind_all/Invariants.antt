use Rattle.std.proofs.Common.{◌≡◌}
use Rattle.rp_base.specs.PidsLeft.{pids_left}
use Rattle.node_traces.specs.Seen.{link_seen}
use Rattle.restored_hosts.specs.Below.{numbers_of}
use Rattle.restored_hosts.proofs.Below.{IsAmong}
use Rattle.node_opening.proofs.binding.bind_all.Given as goal

abbrev pub invariant-ports : goal.invariant-ports
invariant-ports g l = record {
  among : IsAmong (numbers_of l.hosts) (pids_left l.p-iterator);
  still : link_seen g.L.Link.sent g.L.Link.coming g.L.Link.faults l.link ≡ link_seen g.L.Link.sent g.L.Link.coming g.L.Link.faults l.fn.link;
}
