use Rattle.std.proofs.Common.{Some}
use Rattle.rp_devices.specs.Disks.{disk_bytes}
use Rattle.rp_base.specs.Signer.{used_of}
use Rattle.journal_disk.specs.Disks.{HasLength}
use Rattle.journal_rp.specs.Stages.{len_of}
use Rattle.hosted_core.specs.Hosts.{IsReal}
use Rattle.journal_rp_tests.proofs.lost.take_up_all.Given as goal

-- the disk is as long as the last read left it, and the process is one of the definitions
abbrev pub invariant-entries : goal.invariant-entries
invariant-entries l = HasLength (Some (disk_bytes l.disk)) (len_of l.journal) × IsReal used_of l.hosted
