use Rattle.std.proofs.lemmas.Result.{err_from_is_err_and}
use Rattle.message_defs.specs.Frames.{groups_at}
use Rattle.byte_defs.specs.Reads.{rest_of}
use Rattle.frame_codec.proofs.Loops.{group_done, group_fails, groups_end}
use Rattle.frame_codec.proofs.reading.skip_groups.Goals as goal

pub returns-in_err-after : goal.returns-in_err-after
returns-in_err-after c =
    let p = err_from_is_err_and c.from_residual.result c.from_residual.ensures.1 in
    rw (p.1, p.2) (group_fails c.in_err-after.field-0.0 c.args.count c.loop.counter c.loop.rest.now
    (rest_of (groups_at c.args.count c.args.bytes.now)) c.loop-test.true c.in_err-after.ensures c.loop.invariant)

pub loop-preserved : goal.loop-preserved
loop-preserved c = group_done c.args.count c.loop.counter c.loop.rest.now _ c.in_ok-after.after.now
    (rest_of (groups_at c.args.count c.args.bytes.now)) c.loop-test.true c.in_ok-after.ensures c.loop.invariant

pub returns : goal.returns
returns c = groups_end c.args.count c.loop.counter c.loop.rest.now
    (rest_of (groups_at c.args.count c.args.bytes.now)) c.loop-test.false c.loop.invariant
