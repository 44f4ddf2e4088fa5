use Rattle.std.proofs.Common.{◌≡◌, ◌++◌, ℕ, None, map}
use Rattle.kit_defs.specs.Kits.{Kit}
use Rattle.group_defs.specs.Process.{Process}
use Rattle.rp_base.specs.PidsLeft.{pids_left}
use Rattle.node_defs.specs.Casts.{Cast}
use Rattle.node_snapshots.specs.Parts.{part_as}
use Rattle.node_serving.specs.Hosts.{AreHosts, numbers_of}
use Rattle.node_serving.proofs.Handed.{IsAmong}
use Rattle.node_snapping.specs.Snapping.{part_now}
use Rattle.node_snapping.proofs.parts.parts_of.Given as goal

-- the parts so far, and those of the processes that are left
abbrev pub invariant-hosts : goal.invariant-hosts
invariant-hosts l = record {
  among : IsAmong (numbers_of l.hosts) (pids_left l.p-iterator);
  put : (c : Cast) (kit : Kit) (now : ℕ → Process) → AreHosts c kit now None l.hosts
      → map part_as l.parts.items ++ map (part_now l.counts now) (pids_left l.p-iterator) ≡ map (part_now l.counts now) (numbers_of l.hosts);
}
