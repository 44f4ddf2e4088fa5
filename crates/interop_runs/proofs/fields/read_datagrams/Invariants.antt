use Rattle.std.proofs.Common.{map, take}
use Rattle.rp_devices.specs.Links.{ported}
use Rattle.interop_runs.specs.Questions.{Each, IsDatagram}
use Rattle.interop_runs.proofs.Lists.{reported}
use Rattle.interop_runs.proofs.fields.read_datagrams.Given as goal

-- the items before this one are read
abbrev pub invariant-loop-item : goal.invariant-loop-item
invariant-loop-item l = Each IsDatagram (reported (take l.item-index l.item-items)) (map ported l.all.items)
