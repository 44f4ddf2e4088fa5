use Rattle.std.proofs.Common.{◌≡◌, ◌-◌, ◌≤◌, take}
use Rattle.std.specs.Option.{IfSome}
use Rattle.sha2.specs.Hashers.{Holds256}
use Rattle.journal_disk.specs.Disks.{OnlyReads}
use Rattle.journal_disk.proofs.digests.digest_before.Given as goal

-- the bytes so far are in the hash, and the disk was only read
abbrev pub invariant-chunks : goal.invariant-chunks
invariant-chunks g l = record {
  so_far : l.at ≤ l.end;
  hashed : IfSome (g.D.Disk.seen l.initial.disk) (λ file. Holds256 l.hasher (take l.at file));
  disk : OnlyReads g.D.Disk.seen g.D.Disk.may_leave g.D.Disk.moment g.D.Disk.left_since l.initial.disk l.disk;
  steady : g.D.Disk.faults l.disk ≡ g.D.Disk.faults l.initial.disk;
}

abbrev pub decreases-chunks : goal.decreases-chunks
decreases-chunks g l = l.end - l.at
