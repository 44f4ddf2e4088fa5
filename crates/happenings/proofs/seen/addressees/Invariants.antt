use Rattle.std.proofs.Common.{◌≡◌, map, take}
use Rattle.happenings.proofs.seen.addressees.Given as goal

abbrev pub invariant-sends : goal.invariant-sends
invariant-sends l = l.all.items ≡ map (λ s. s.to) (take l.sending-index l.sends)
