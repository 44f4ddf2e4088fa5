-- Devices that aren't there.
use Rattle.std.specs.Prelude.{ℕ}
use Rattle.rp_base.specs.declared.absent.NoDisk.{NoDisk}
use Rattle.rp_base.specs.declared.absent.NoLink.{NoLink}

abbrev pub disk_faults : NoDisk → ℕ
disk_faults d = d.faults

abbrev pub link_faults : NoLink → ℕ
link_faults l = l.faults
