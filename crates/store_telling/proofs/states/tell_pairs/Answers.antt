use Rattle.store_records.specs.Cursors.{pairs_left}
use Rattle.store_records.specs.Views.{pair}
use Rattle.store_telling.proofs.Pairs.{ends, goes_on, never_fails, rest_is_ok}
use Rattle.store_telling.proofs.states.tell_pairs.Goals as goal

pub pairs-preserved : goal.pairs-preserved
pairs-preserved c =
    let next = rw c.in-Ok-Some.field-0-is at c.in-Ok-Some.ensures in
    let left = pairs_left c.pairs.pairs in
    let rest = pairs_left c.next.new.self in
    record {
      ok = rest_is_ok left rest (pair c.in-Ok-Some.pair) next.0 c.pairs.invariant.ok;
      so_far = goes_on _ c.pairs.out.items _ left rest (pair c.in-Ok-Some.pair) next.0 c.pairs.invariant.ok
          c.in_ok-tell_pair-in-Ok-Some.ensures c.pairs.invariant.so_far;
    }

pub returns-in-Ok-None : goal.returns-in-Ok-None
returns-in-Ok-None c =
    let none = rw c.in-Ok-None.field-0-is at c.in-Ok-None.ensures in
    ends _ c.pairs.out.items (pairs_left c.pairs.pairs) none c.pairs.invariant.so_far

pub unreachable-requires : goal.unreachable-requires
unreachable-requires c = never_fails (pairs_left c.pairs.pairs) c.in-Err.ensures c.pairs.invariant.ok
