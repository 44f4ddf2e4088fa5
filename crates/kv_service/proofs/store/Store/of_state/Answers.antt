use Rattle.std.proofs.Common.{arith}
use Rattle.store_records.specs.Cursors.{pairs_left}
use Rattle.store_records.specs.Views.{pair}
use Rattle.kv_service.specs.Pairs.{pairs_of}
use Rattle.kv_service.proofs.Reading.{ends, goes-on, is-store}
use Rattle.kv_service.proofs.store.Store.of_state.Goals as goal

pub pairs-preserved : goal.pairs-preserved
pairs-preserved c =
    let next = rw c.in-Ok-Some.field-0-is at c.in-Ok-Some.ensures in
    goes-on c.args.bytes.now (pairs_left c.pairs.left) (pairs_left c.next.new.self) (pair c.in-Ok-Some.pair) (pairs_of c.pairs.pairs)
    (pairs_of c.insert.new.pairs) (λ i. omega (arith, c.type_inv.bytes i)) c.pairs.invariant next.0
    c.in_ok-insert-in-Ok-Some.ensures.inserted

pub invariant_of-result : goal.invariant_of-result
invariant_of-result c =
    let next = rw c.in-Ok-None.field-0-is at c.in-Ok-None.ensures in
    is-store c.args.bytes.now (pairs_of c.pairs.pairs) (λ i. omega (arith, c.type_inv.bytes i))
    (ends c.args.bytes.now (pairs_left c.pairs.left) (pairs_of c.pairs.pairs) c.pairs.invariant next)
