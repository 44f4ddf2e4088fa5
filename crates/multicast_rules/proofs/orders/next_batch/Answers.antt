use Rattle.std.proofs.Common.{◌+◌, ap, arith, length}
use Rattle.pool_laws.proofs.Places.{length-snoc}
use Rattle.stmt_codec.specs.Batches.{message_of}
use Rattle.multicast_rules.proofs.Ordering.{first-one, no-first, next-one, no-more, full}
use Rattle.multicast_rules.proofs.orders.next_batch.Goals as goal

pub returns-in_err-sender-clause-next : goal.returns-in_err-sender-clause-next
returns-in_err-sender-clause-next c = λ pool before is.
    rw c.from_residual.ensures (no-first c.args.pool.now.pool before c.args.limit pool c.args.counts.now c.take_next.new.counts
    c.requires.some is (c.in_err-sender.ensures pool))

pub messages-init : goal.messages-init
messages-init c = record {
  so_far = λ pool before is. rw c.of-batch.ensures
      (first-one c.args.pool.now.pool before c.args.limit pool c.args.counts.now c.take_next.new.counts
      (c.in_ok-sender.sender, c.in_ok-sender.number) c.requires.some is (c.in_ok-sender.ensures pool));
  long = ap length c.of-batch.ensures;
}

pub returns-in_default-clause-next : goal.returns-in_default-clause-next
returns-in_default-clause-next c = λ pool before is.
    no-more c.args.pool.now.pool before c.args.limit pool c.messages.batch c.messages.counts c.take_next-in-messages.new.counts
    c.messages._more c.messages-test.true (c.messages.invariant.so_far pool before is) (c.in_default.ensures pool)

pub messages-preserved : goal.messages-preserved
messages-preserved c = record {
  so_far = λ pool before is.
      rw c.push.ensures
      (next-one c.args.pool.now.pool before c.args.limit pool c.messages.batch c.messages.counts c.take_next-in-messages.new.counts
      c.messages._more (c.messages._more + 1) c.in-Some.message (omega (arith, c.messages-test.true))
      (c.messages.invariant.so_far pool before is) (c.in-Some.ensures pool));
  long = let one = ap length c.push.ensures in let more = length-snoc c.messages.batch
      (message_of c.in-Some.message) in let was = c.messages.invariant.long in omega (arith, one, more, was);
}

pub returns-clause-next : goal.returns-clause-next
returns-clause-next c = λ pool before is. full c.args.pool.now.pool before c.args.limit pool c.messages.batch c.messages.counts
    c.messages._more c.messages-test.false (c.messages.invariant.so_far pool before is)
