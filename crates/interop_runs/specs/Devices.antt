-- Devices in memory whose calls fail by their kind and number.
use Rattle.std.specs.Prelude.{◌≡◌, ℕ, false, List, [], Option, Vec}
use Rattle.std.specs.declared.alloc.Global.{Global}
use Rattle.rp_base.specs.declared.mem_source.MemSource.{MemSource}
use Rattle.rp_base.specs.declared.mem_sink.MemSink.{MemSink}
use Rattle.rp_base.specs.Mem.{sink_bytes, sink_calls, source_calls, source_left}
use Rattle.rp_devices.specs.declared.mem_disk.MemDisk.{MemDisk}
use Rattle.rp_devices.specs.declared.mem_link.MemLink.{MemLink}
use Rattle.rp_devices.specs.Disks.{disk_bytes, disk_calls, first_bytes, log_of}
use Rattle.rp_devices.specs.Links.{link_coming, link_sent, on_port}
use Rattle.interop_runs.specs.declared.calls.Kind.TheVariants.{Bind, Send, Recv, Len, Read, Write, Sync, Source, Sink}
use Rattle.interop_runs.specs.declared.calls.Nth.{Nth}
use Rattle.interop_runs.specs.declared.calls.Calls.{Calls}
use Rattle.interop_runs.specs.declared.disk.FailingDisk.{FailingDisk}
use Rattle.interop_runs.specs.declared.link.FailingLink.{FailingLink}
use Rattle.interop_runs.specs.declared.outside.Outside.{Outside}
use Rattle.interop_runs.specs.Calls.{numbers_of}

-- no call was made, and those of these numbers are to fail
abbrev pub HasNone : Calls → List ℕ → Type 0
HasNone calls numbers = (calls.made ≡ 0) × (calls.failing.items ≡ numbers)

-- no call was made; of each kind these are to fail, and at one the disk is cut off
pub record IsFreshDisk {D : Type 0} (failing : List Nth) (cut : Option Nth) (disk : FailingDisk D) : Type 0 where
  pub lens : HasNone disk.lens (numbers_of Len failing)
  pub reads : HasNone disk.reads (numbers_of Read failing)
  pub writes : HasNone disk.writes (numbers_of Write failing)
  pub syncs : HasNone disk.syncs (numbers_of Sync failing)
  pub cut_at : disk.cut ≡ cut
  pub not_yet : disk.is_cut ≡ false
  pub steady : disk.faults ≡ 0

-- no call was made, and of each kind these are to fail
pub record IsFreshLink {L : Type 0} (failing : List Nth) (link : FailingLink L) : Type 0 where
  pub binds : HasNone link.binds (numbers_of Bind failing)
  pub sends : HasNone link.sends (numbers_of Send failing)
  pub receives : HasNone link.receives (numbers_of Recv failing)
  pub steady : link.faults ≡ 0

-- the disk in memory within
abbrev pub disk_within : Outside → MemDisk
disk_within o = o.disk.inner

-- the link in memory within
abbrev pub link_within : Outside → MemLink
link_within o = o.link.inner
