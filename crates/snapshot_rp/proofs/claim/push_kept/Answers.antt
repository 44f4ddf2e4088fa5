use Rattle.std.proofs.Common.{arith}
use Rattle.snapshot_rp.proofs.Kept.{kept_is_spelled}
use Rattle.snapshot_rp.proofs.claim.push_kept.Goals as goal

pub returns : goal.returns
returns c =
    let s = kept_is_spelled c.args.statement.now (λ i. omega (arith, c.type_inv.statement i)) c.requires in
    rw s.same c.push_parts.ensures
