use Rattle.std.proofs.Common.{◌≡◌, ◌-◌, ◌≤◌, [], ℕ, List}
use Rattle.journal_defs.specs.declared.Version.{Version}
use Rattle.journal_defs.specs.Entries.{Entry}
use Rattle.journal_disk.specs.Disks.{HasLength, OnlyReads}
use Rattle.journal_rp.specs.Stages.{gate_of, len_of, version_of}
use Rattle.node_defs.specs.Casts.{Beginning, cast_of}
use Rattle.restored_hosts.specs.Below.{count_in}
use Rattle.node_opening.specs.Reading.{HasRead}
use Rattle.node_opening.proofs.reading.take_all.Given as goal

-- some entries were read, and the disk was only read
abbrev pub invariant-entries : goal.invariant-entries
invariant-entries g l = record {
  few : (p : ℕ) → count_in l.counts p ≤ gate_of l.journal;
  as_left : HasLength (g.D.Disk.seen l.disk) (len_of l.journal);
  read : (version : Version) (head : List ℕ) (b : Beginning) (lines : ℕ)
      → HasRead (cast_of l.kit version) l.kit head b lines (g.D.Disk.seen l.fn.disk) [] (gate_of l.fn.journal) l.fn.hosts l.fn.counts
      → (es : List Entry) × HasRead (cast_of l.kit version) l.kit head b lines (g.D.Disk.seen l.fn.disk) es (gate_of l.journal) l.hosts l.counts;
  kind : version_of l.journal ≡ version_of l.fn.journal;
  disk : OnlyReads g.D.Disk.seen g.D.Disk.may_leave g.D.Disk.moment g.D.Disk.left_since l.fn.disk l.disk;
  steady : g.D.Disk.faults l.disk ≡ g.D.Disk.faults l.fn.disk;
}

-- the bytes after the gate
abbrev pub decreases-entries : goal.decreases-entries
decreases-entries g l = len_of l.journal - gate_of l.journal
