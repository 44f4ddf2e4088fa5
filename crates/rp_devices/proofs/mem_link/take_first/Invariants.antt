use Rattle.std.proofs.Common.{◌≡◌, [], map, take}
use Rattle.rp_devices.specs.Links.{ported, on_port}
use Rattle.rp_devices.proofs.mem_link.take_first.Given as goal

abbrev pub invariant-loop-at : goal.invariant-loop-at
invariant-loop-at l = (l.from ≡ l.fn.from) × (on_port (map ported (take l.at l.from.items)) l.port ≡ [])
