use Rattle.std.proofs.Common.{arith}
use Rattle.kv_service.specs.Pairs.{pairs_of}
use Rattle.kv_service.proofs.Lengths.{counted-begins, counted-within}
use Rattle.kv_service.proofs.state.state_length.Goals as goal

pub pairs-init : goal.pairs-init
pairs-init c =
    counted-begins c.args.pairs.now.entries c.into_iter-key-iterator.result c.into_iter-key-iterator.ensures.into_iter_gives.0

pub overflow_add-total-in-pairs : goal.overflow_add-total-in-pairs
overflow_add-total-in-pairs c =
    let within = counted-within c.pairs.total (pairs_of c.args.pairs.now) c.pairs.key-iterator c.next.new.self
    (c.in-Some.key.now, c.in-Some.value.now) c.in-Some.ensures.steps c.pairs.invariant c.requires in
    omega (arith, within, c.in-Some.key.now.ok.0, c.in-Some.value.now.ok.0)

pub overflow_add-total-in-pairs-2 : goal.overflow_add-total-in-pairs-2
overflow_add-total-in-pairs-2 c =
    let within = counted-within c.pairs.total (pairs_of c.args.pairs.now) c.pairs.key-iterator c.next.new.self
    (c.in-Some.key.now, c.in-Some.value.now) c.in-Some.ensures.steps c.pairs.invariant c.requires in
    omega (arith, within, c.in-Some.key.now.ok.0, c.in-Some.value.now.ok.0)
