use Rattle.std.proofs.Common.{◌≡◌, ℕ, map, take}
use Rattle.rp_devices.specs.Links.{link_coming, link_sent, on_port, ported}
use Rattle.interop_runs.proofs.outside.link_with.Given as goal

-- the datagrams before this one wait
abbrev pub invariant-loop-datagram : goal.invariant-loop-datagram
invariant-loop-datagram l = record {
  sent : link_sent l.link ≡ map ported (take l.datagram-index l.coming);
  waits : (port : ℕ) → link_coming l.link port ≡ on_port (map ported (take l.datagram-index l.coming)) port;
}
