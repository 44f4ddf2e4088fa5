use Rattle.std.proofs.Common.{Some}
use Rattle.rp_devices.specs.Disks.{disk_bytes}
use Rattle.journal_disk.specs.Disks.{HasLength}
use Rattle.journal_rp.specs.Stages.{len_of}
use Rattle.journal_rp_tests.proofs.runs.append_all.Given as goal

-- the disk is as long as the last turn left it
abbrev pub invariant-turns : goal.invariant-turns
invariant-turns g l = HasLength (Some (disk_bytes l.disk)) (len_of l.journal)
