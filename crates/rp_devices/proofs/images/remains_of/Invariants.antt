use Rattle.std.proofs.Common.{◌≡◌, take}
use Rattle.rp_devices.specs.Held.{opened, after, remains}
use Rattle.rp_devices.proofs.images.remains_of.Given as goal

abbrev pub invariant-loop-change : goal.invariant-loop-change
invariant-loop-change l =
    let h = after (opened l.first) (take l.change-index l.log) in
    (l.file.items ≡ h.file) × (l.image.items ≡ remains l.byte h)
