use Rattle.std.proofs.Common.{arith, ap, length}
use Rattle.statements.specs.Batches.{filled_again}
use Rattle.statements.proofs.Batching.{put_behind}
use Rattle.statements.proofs.batch.Batch.push.Goals as goal

pub invariant_of-self : goal.invariant_of-self
invariant_of-self c =
    let len = (filled_again c.self.inside.len c.self.inside.messages c.self.invariant).1 in
    put_behind c.self.inside.len c.self.inside.messages (c.args.sender, c.args.number) c.self.invariant
    (omega (arith, len, ap length c.self.view_is))
