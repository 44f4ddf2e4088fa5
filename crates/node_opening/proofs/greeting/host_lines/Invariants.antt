use Rattle.std.proofs.Common.{◌≡◌, ◌++◌, ℕ, None}
use Rattle.kit_defs.specs.Kits.{Kit}
use Rattle.group_defs.specs.Process.{Process}
use Rattle.rp_base.specs.PidsLeft.{pids_left}
use Rattle.node_defs.specs.Casts.{Cast}
use Rattle.restored_hosts.specs.Below.{AreHosts, numbers_of}
use Rattle.restored_hosts.proofs.Below.{IsAmong}
use Rattle.node_opening.proofs.Each.{lines_of}
use Rattle.node_opening.proofs.greeting.host_lines.Given as goal

-- the lines so far, and those of the processes that are left
abbrev pub invariant-hosts : goal.invariant-hosts
invariant-hosts l = record {
  among : IsAmong (numbers_of l.hosts) (pids_left l.p-iterator);
  reported : (c : Cast) (kit : Kit) (now : ℕ → Process) → AreHosts c kit now None l.hosts
      → l.text.items ++ lines_of now l.counts (pids_left l.p-iterator) ≡ lines_of now l.counts (numbers_of l.hosts);
}
