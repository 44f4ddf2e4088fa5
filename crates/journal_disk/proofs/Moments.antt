-- How a run of disk calls goes on.
use Rattle.std.proofs.Common.{inl, inr, ⊎_elim, ℕ, List, arith}
use Rattle.rp_base.specs.Disks.{Elapses}
use Rattle.journal_disk.specs.Disks.{LeavesOnly}

module _ {D : Type 0} (moment : D → ℕ) (left_since : D → ℕ → List ℕ → Type 0) where
  -- one call
  pub one_call : (old new : D) (P may_leave : List ℕ → Type 0) → ((c : List ℕ) → left_since old (moment old) c → P c)
      → Elapses (moment old) (moment new) (left_since old) (left_since new) may_leave
      → ((c : List ℕ) → may_leave c → P c) → LeavesOnly moment left_since old new P
  one_call old new P may_leave at_first time here = record {
    later = time.later;
    each = λ c left. ⊎_elim (at_first c) (here c) (time.nothing_else (moment old) c (omega arith) left);
    before = λ t c le left. ⊎_elim (λ past. inl past) (λ now. inr (here c now)) (time.nothing_else t c le left);
  }

  -- and one more
  pub goes_on : (old mid new : D) (P may_leave : List ℕ → Type 0) → LeavesOnly moment left_since old mid P
      → Elapses (moment mid) (moment new) (left_since mid) (left_since new) may_leave
      → ((c : List ℕ) → may_leave c → P c) → LeavesOnly moment left_since old new P
  goes_on old mid new P may_leave so_far time here = record {
    later = omega (arith, so_far.later, time.later);
    each = λ c left. ⊎_elim (so_far.each c) (here c) (time.nothing_else (moment old) c so_far.later left);
    before = λ t c le left. ⊎_elim (so_far.before t c le) (λ now. inr (here c now))
        (time.nothing_else t c (omega (arith, le, so_far.later)) left);
  }

  -- what holds of more images
  pub weaker : (old new : D) (P Q : List ℕ → Type 0) → ((c : List ℕ) → P c → Q c) → LeavesOnly moment left_since old new P
      → LeavesOnly moment left_since old new Q
  weaker old new P Q more leaves = record {
    later = leaves.later;
    each = λ c left. more c (leaves.each c left);
    before = λ t c le left. ⊎_elim (λ past. inl past) (λ p. inr (more c p)) (leaves.before t c le left);
  }

  -- one run behind another
  pub then : (old mid new : D) (P : List ℕ → Type 0) → LeavesOnly moment left_since old mid P → LeavesOnly moment left_since mid new P
      → LeavesOnly moment left_since old new P
  then old mid new P first second = record {
    later = omega (arith, first.later, second.later);
    each = λ c left. ⊎_elim (first.each c) (λ p. p) (second.before (moment old) c first.later left);
    before = λ t c le left. ⊎_elim (first.before t c le) (λ p. inr p) (second.before t c (omega (arith, le, first.later)) left);
  }
