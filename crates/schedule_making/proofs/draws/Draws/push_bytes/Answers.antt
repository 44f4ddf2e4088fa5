use Rattle.std.proofs.Common.{arith}
use Rattle.schedule_making.proofs.Drawing.{one_more, all_drawn}
use Rattle.schedule_making.proofs.draws.Draws.push_bytes.Goals as goal

pub bytes-preserved : goal.bytes-preserved
bytes-preserved c =
    rw c.in_ok-push.ensures.items
    (one_more c.args.count c.bytes.counter c.bytes.self.state _ c.below.new.self.state c.bytes.out.items _
    (omega arith) c.below.ensures.state
    (omega (arith, c.below.ensures.value, c.below.ensures.range)) c.bytes.invariant)

pub returns : goal.returns
returns c = all_drawn c.args.count c.bytes.counter c.bytes.self.state c.bytes.out.items _ (omega arith) c.bytes.invariant
