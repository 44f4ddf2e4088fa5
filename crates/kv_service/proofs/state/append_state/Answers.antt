use Rattle.std.proofs.Common.{◌≡◌, ◌+◌, ◌≤◌, ap, sym, subst, length, vec_capacity, arith}
use Rattle.std.specs.List.{AllByRecursion}
use Rattle.store_defs.specs.Stores.{IsPair, store_bytes}
use Rattle.kv_service.specs.Pairs.{pairs_of}
use Rattle.kv_service.proofs.Entries.{Entries, pairs}
use Rattle.kv_service.proofs.Lengths.{begun, few, room-left, state-long}
use Rattle.kv_service.proofs.state.append_state.Goals as goal

pub overflow_cast-len : goal.overflow_cast-len
overflow_cast-len c =
    let at_most = few c.args.pairs.now.entries c.requires.fits in
    let len = c.len.ensures.len in
    omega (arith, at_most, len)

pub append-requires : goal.append-requires
append-requires c =
    let two : length c.to_be_bytes.result ≡ 2 = ap length c.to_be_bytes.ensures in
    record { room = omega (arith, two, state-long (pairs_of c.args.pairs.now)) }

pub pairs-init : goal.pairs-init
pairs-init c = record {
  items = begun c.args.pairs.now.entries c.into_iter-key-iterator.result c.len.result c.args.out.now.items c.to_be_bytes.result
      c.append.new.out.items c.into_iter-key-iterator.ensures.into_iter_gives.0 c.len.ensures.len c.to_be_bytes.ensures c.append.ensures.items;
  room = c.append.ensures.capacity;
  each = subst (λ (l : Entries). AllByRecursion IsPair (pairs l)) (sym c.into_iter-key-iterator.ensures.into_iter_gives.0) c.requires.fits.each;
}

pub append_pair-requires-clause-room : goal.append_pair-requires-clause-room
append_pair-requires-clause-room c =
    let fits : length c.args.out.now.items + length (store_bytes (pairs_of c.args.pairs.now)) ≤ vec_capacity c.args.out.now =
    omega (arith, c.args.out.now.ok.0, c.requires.room) in
    let room = room-left (pairs_of c.args.pairs.now) c.pairs.key-iterator c.next.new.self (c.in-Some.key.now, c.in-Some.value.now)
    c.pairs.out.items c.args.out.now.items (vec_capacity c.args.out.now) c.in-Some.ensures.steps c.pairs.invariant.items fits in
    let key = ap length c.deref.ensures.value in
    let value = ap length c.deref-in-pairs.ensures.value in
    omega (arith, room, key, value, c.pairs.out.ok.0)
