-- The counts, message by message of a batch.
use Rattle.std.proofs.Common.{◌≡◌, ℕ, zero, suc, ◌+◌, ◌≤◌, List, [], ◌∷◌, ◌++◌, map, length, take, Some, None, Bool, true, false, refl, sym, ap, ◌∙◌, subst, arith, slice_get}
use Rattle.std.specs.Prelude.{◌==◌, slice_index_or, slice_set}
use Rattle.std.specs.List.{AllByRecursion}
use Rattle.std.proofs.lemmas.Bool.{eqb-true, both_ways}
use Rattle.message_defs.specs.Statements.{Message, Batch}
use Rattle.message_defs.specs.Spelling.{IsMessage}
use Rattle.group_defs.specs.Views.{View, IsView, is_member, rank_of}
use Rattle.group_defs.specs.Due.{follows}
use Rattle.claim_index.specs.Statements.{message_of}
use Rattle.rule_laws.specs.Placing.{FollowsSoFar, counts_in}
use Rattle.rule_laws.proofs.Ordering.{follows_begins, follows_on}
use Rattle.rule_laws.proofs.Ranks.{rank-at}
use Rattle.pool_laws.proofs.Members.{list_all-mem}
use Rattle.pool_laws.proofs.Places.{slice_get-mem, map-get}
use Rattle.pool_laws.proofs.Ranks.{rank-of-member}
use Rattle.own_place.specs.Noting.{ComeNext}

-- the number of each is in its range
pub small-number : (ms : List (ℕ × ℕ)) (i : ℕ) (m : ℕ × ℕ) → AllByRecursion IsMessage (map message_of ms) → slice_get ms i ≡ Some m
    → m.1 ≤ 1023
small-number [] i m all at = absurd cc
small-number (x ∷ ms) zero m all at = let is : x ≡ m = cc in subst (λ (y : ℕ × ℕ). y.1 ≤ 1023) is all.0.1
small-number (x ∷ ms) (suc i) m all at = small-number ms i m all.1 at

-- behind those of these counts, so many are counted
abbrev pub SoFar : View → List (ℕ × ℕ) → List ℕ → List ℕ → ℕ → Type 0
SoFar v ms counts counts' i = (before : List Message) → ComeNext v before (map message_of ms) → counts_in v before ≡ counts
    → FollowsSoFar v before (map message_of ms) counts' i

module _ (v : View) (view : IsView v) (ms : List (ℕ × ℕ)) where
  abbrev batch : Batch
  batch = map message_of ms

  pub begins : (counts : List ℕ) → SoFar v ms counts counts 0
  begins counts before come e = subst (λ cs. FollowsSoFar v before batch cs 0) e (follows_begins v before batch)

  -- one more, of the member of rank r
  pub one-more : (counts counts' : List ℕ) (i r : ℕ) (m : ℕ × ℕ) → SoFar v ms counts counts' i → slice_get ms i ≡ Some m
      → rank_of v m.0 ≡ Some r → SoFar v ms counts (slice_set counts' r (m.1 + 1)) (i + 1)
  one-more counts counts' i r m so_far at rank before come e =
      let step = follows_on v before batch counts' i r (message_of m) view (so_far before come e) (map-get message_of ms i m at)
      (rank-at v m.0 r rank) in
      go (m.1 == slice_index_or counts' r 0) refl step.0 step.1
    where
      go : (b : Bool) → (m.1 == slice_index_or counts' r 0) ≡ b
          → (b ≡ true → FollowsSoFar v before batch (slice_set counts' r (slice_index_or counts' r 0 + 1)) (i + 1))
          → (b ≡ false → follows before batch ≡ false)
          → FollowsSoFar v before batch (slice_set counts' r (m.1 + 1)) (i + 1)
      go true same here there = subst (λ n. FollowsSoFar v before batch (slice_set counts' r (n + 1)) (i + 1))
          (sym (eqb-true m.1 (slice_index_or counts' r 0) same)) (here refl)
      go false other here there = absurd (both_ways _ (there refl) come.in_order)

  -- there is no other one
  pub no-stranger : (counts counts' : List ℕ) (i : ℕ) (m : ℕ × ℕ) → slice_get ms i ≡ Some m → rank_of v m.0 ≡ None
      → SoFar v ms counts counts' (i + 1)
  no-stranger counts counts' i m at none before come e =
      let member = list_all-mem (λ (m : Message). is_member v m.sender) batch (message_of m) come.members
      (slice_get-mem batch i (message_of m) (map-get message_of ms i m at)) in
      let rank = rank-of-member v m.0 member in
      let some = rank.1 in
      absurd cc

  -- all of them
  pub whole : (counts counts' : List ℕ) (n : ℕ) → n ≡ length ms → SoFar v ms counts counts' n → (before : List Message)
      → ComeNext v before batch → counts_in v before ≡ counts → counts_in v (before ++ batch) ≡ counts'
  whole counts counts' n all so_far before come e =
      let it = so_far before come e in
      sym (it.counts ∙ ap (λ b. counts_in v (before ++ b)) (take-all ms n all))
    where
      take-all : (ms : List (ℕ × ℕ)) (n : ℕ) → n ≡ length ms → take n (map message_of ms) ≡ map message_of ms
      take-all ms zero e = none ms e
        where
          none : (ms : List (ℕ × ℕ)) → zero ≡ length ms → take zero (map message_of ms) ≡ map message_of ms
          none [] e = refl
          none (m ∷ ms) e = absurd (omega (arith, e))
      take-all [] (suc n) e = refl
      take-all (m ∷ ms) (suc n) e = ap (λ xs. message_of m ∷ xs) (take-all ms n (omega (arith, e)))
