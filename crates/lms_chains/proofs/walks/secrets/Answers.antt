use Rattle.std.proofs.Common.{◌<◌, ◌∙◌, ◌++◌, sym, arith}
use Rattle.signature_defs.specs.Strings.{u16str}
use Rattle.lms_chains.proofs.ChainSteps.{one_step}
use Rattle.lms_chains.proofs.walks.secrets.Goals as goal

pub returns : goal.returns
returns c i among =
    let low : i < 265 = omega arith in
    c.walk_in_order.ensures i among
    ∙ rw (c.same.ensures i low, c.same-2.ensures i low, c.same_starts.ensures i low) (sym (one_step (c.args.key.now ++ u16str i) c.args.seed.now 255))
