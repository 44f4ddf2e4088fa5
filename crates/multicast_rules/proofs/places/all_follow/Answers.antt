use Rattle.std.proofs.Common.{map, sym}
use Rattle.stmt_codec.specs.Batches.{message_of}
use Rattle.multicast_rules.proofs.Following.{message-at, goes-on, ends}
use Rattle.multicast_rules.proofs.places.all_follow.Goals as goal

pub returns-in_default : goal.returns-in_default
returns-in_default c = λ pool before is.
    sym (ends c.args.pool.now.pool before (map message_of c.args.messages.now) c.messages.counts c.messages.sender-index
    (message_of c.messages-item.result) pool
    (message-at c.args.messages.now c.messages.sender-index c.messages-item.result c.messages-test.true c.messages-item.is)
    (c.messages.invariant pool before is) c.in_default.ensures)

pub messages-preserved : goal.messages-preserved
messages-preserved c = λ pool before is.
    goes-on c.args.pool.now.pool before (map message_of c.args.messages.now) c.messages.counts c.messages.sender-index
    (message_of c.messages-item.result) pool
    (message-at c.args.messages.now c.messages.sender-index c.messages-item.result c.messages-test.true c.messages-item.is)
    (c.messages.invariant pool before is) c.in-Some.rank c.count_one.new.counts c.in-Some.ensures c.count_one.ensures
