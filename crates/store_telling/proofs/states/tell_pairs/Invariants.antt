use Rattle.std.proofs.Common.{◌≡◌, ◌++◌, true}
use Rattle.std.specs.Prelude.{is_ok}
use Rattle.store_records.specs.Cursors.{pairs_left}
use Rattle.store_telling.specs.Pieces.{pairs_reported, reported_text}
use Rattle.store_telling.proofs.states.tell_pairs.Given as goal

-- the lines so far, and those of the pairs that are left, are all
abbrev pub invariant-pairs : goal.invariant-pairs
invariant-pairs l = record {
  ok : is_ok (pairs_left l.pairs) ≡ true;
  so_far : l.out.items ++ reported_text (pairs_reported (pairs_left l.pairs)) ≡ l.fn.out.items ++ reported_text (pairs_reported (pairs_left l.fn.pairs));
}

abbrev pub decreases-pairs : goal.decreases-pairs
decreases-pairs l = l.pairs.left
