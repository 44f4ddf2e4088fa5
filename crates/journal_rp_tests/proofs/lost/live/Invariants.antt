use Rattle.std.specs.Prelude.{IfSome}
use Rattle.std.proofs.Common.{Some}
use Rattle.rp_devices.specs.Disks.{disk_bytes}
use Rattle.journal_disk.specs.Disks.{HasLength}
use Rattle.journal_rp.specs.Stages.{len_of}
use Rattle.journal_rp_tests.proofs.lost.live.Given as goal

-- where the node is there, the disk is as long as its journal left it
abbrev pub invariant-events : goal.invariant-events
invariant-events l = IfSome l.node (λ n. HasLength (Some (disk_bytes l.disk)) (len_of n.journal))
