use Rattle.std.proofs.Common.{◌≡◌, ◌<◌, ◌^◌, refl, sym, ap, ◌∙◌, arith}
use Rattle.std.proofs.lemmas.Nat.Bits.{shr_and_one}
use Rattle.rp_base.specs.Pids.{mask_of}
use Rattle.rp_base.specs.Masks.{mask_of-members}
use Rattle.replay_world.proofs.world.is_addressed.Goals as goal

pub returns : goal.returns
returns c =
    let m = c.mask.result in
    let low : m < 2 ^ 64 = omega arith in
    let mask : mask_of c.args.to ≡ m = ap mask_of (sym c.mask.ensures) ∙ mask_of-members m low in
    rw (c.get.ensures.value, shr_and_one m c.args.p, mask) refl
