use Rattle.std.proofs.Common.{◌<◌, ◌∙◌, refl, arith}
use Rattle.std.proofs.Math.Nat.{sub-zero}
use Rattle.lms_chains.proofs.walks.walk_alike.Goals as goal

pub returns : goal.returns
returns c i among =
    let low : i < 265 = omega arith in
    c.walk_in_order.ensures i among
    ∙ rw (c.same.ensures i low, c.same-2.ensures i low, c.from.ensures, sub-zero) refl
