-- The counts of a view: none at first, and message by message of a batch.
use Rattle.std.proofs.Common.{◌≡◌, ℕ, zero, suc, ◌+◌, ◌<◌, ◌≤◌, List, [], ◌∷◌, ◌++◌, map, length, take, replicate, Some, None, Bool, true, false, cond, refl, sym, ap, ◌∙◌, subst, arith, inl, inr, slice_get, append_assoc}
use Rattle.std.specs.Prelude.{◌==◌, if◌then◌else◌, slice_index_or, slice_set, All}
use Rattle.std.proofs.lemmas.Bool.{ne_eqb, eq-eqb}
use Rattle.std.proofs.lemmas.List.{take_more, append-nil}
use Rattle.std.proofs.lemmas.List.Sums.{sum_by-append}
use Rattle.message_defs.specs.Statements.{Message, Batch}
use Rattle.group_defs.specs.Views.{View, IsView, is_member, rank_of}
use Rattle.group_defs.specs.Certified.{named}
use Rattle.stmt_codec.specs.Batches.{message_of}
use Rattle.rule_laws.specs.Placing.{counts_in}
use Rattle.rule_laws.proofs.Ordering.{counts_one_more}
use Rattle.rule_laws.proofs.Ranks.{rank-at}
use Rattle.pool_laws.proofs.Members.{Mem, mem-list_any}
use Rattle.pool_laws.proofs.Places.{index-is, map-get, slice_get-length}
use Rattle.pool_laws.proofs.Ranks.{rank-of-member}

-- ---- no message is counted

pub zeros : (n : ℕ) (ms : List ℕ) → length ms ≤ n → take (length ms) (replicate n 0) ≡ map (λ m. named m []) ms
zeros zero [] le = refl
zeros (suc n) [] le = refl
zeros zero (m ∷ ms) le = absurd (omega (arith, le))
zeros (suc n) (m ∷ ms) le = ap (λ xs. 0 ∷ xs) (zeros n ms (omega (arith, le)))

-- ---- a batch is counted, message by message

-- behind those of the counts `was` the first i messages are counted, and no count rose by more
pub record Counting (v : View) (ms : List (ℕ × ℕ)) (was counts : List ℕ) (i : ℕ) : Type 0 where
  pub room : (k : ℕ) → slice_index_or counts k 0 ≤ 65519 + i
  pub counted : (before : List Message) → was ≡ counts_in v before → counts ≡ counts_in v (before ++ take i (map message_of ms))

all-below : (xs : List ℕ) → All (λ c. c + 16 ≤ 65535) xs → (k : ℕ) → slice_index_or xs k 0 ≤ 65519
all-below [] all k = omega arith
all-below (x ∷ xs) all zero = let le : x + 16 ≤ 65535 = all zero 0 (omega arith) in omega (arith, le)
all-below (x ∷ xs) all (suc k) = all-below xs (λ j d lt. all (suc j) d (omega (arith, lt))) k

set-below : (xs : List ℕ) (r y k b : ℕ) → ((j : ℕ) → slice_index_or xs j 0 ≤ b) → y ≤ b → slice_index_or (slice_set xs r y) k 0 ≤ b
set-below [] r y k b all le = all k
set-below (x ∷ xs) zero y zero b all le = le
set-below (x ∷ xs) zero y (suc k) b all le = all (suc k)
set-below (x ∷ xs) (suc r) y zero b all le = all zero
set-below (x ∷ xs) (suc r) y (suc k) b all le = set-below xs r y k b (λ j. all (suc j)) le

snoc-count : (q : ℕ) (ms : List Message) (m : Message) → (m.sender ≡ q → ⊥) → named q (ms ++ m ∷ []) ≡ named q ms
snoc-count q ms m other = sum_by-append (λ (m : Message). cond (m.sender == q) 1 0) ms (m ∷ []) ∙ ap (λ b. named q ms + (0 + cond b 1 0))
    (ne_eqb m.sender q other) ∙ (let none : named q ms + (0 + 0) ≡ named q ms = omega arith in none)

-- a message of one who is no member is not counted
stranger-counts : (before : List Message) (m : Message) (ms : List ℕ) → ((q : ℕ) → Mem q ms → m.sender ≡ q → ⊥)
    → map (λ q. named q (before ++ m ∷ [])) ms ≡ map (λ q. named q before) ms
stranger-counts before m [] apart = refl
stranger-counts before m (q ∷ ms) apart =
    let here = snoc-count q before m (apart q (inl refl)) in
    let rest = stranger-counts before m ms (λ q' there. apart q' (inr there)) in
    λ i. here i ∷ rest i

module _ (v : View) (ms : List (ℕ × ℕ)) where
  abbrev batch : Batch
  batch = map message_of ms

  pub begins : (counts : List ℕ) → All (λ c. c + 16 ≤ 65535) counts → Counting v ms counts counts 0
  begins counts room = record {
    room = λ k. let le = all-below counts room k in omega (arith, le);
    counted = λ before e. e ∙ ap (counts_in v) (sym (append-nil before));
  }

  further : (before : List Message) (i : ℕ) (m : ℕ × ℕ) → slice_get ms i ≡ Some m
      → (before ++ take i batch) ++ message_of m ∷ [] ≡ before ++ take (i + 1) batch
  further before i m at =
      let there : slice_get batch i ≡ Some (message_of m) = map-get message_of ms i m at in
      append_assoc before (take i batch) (message_of m ∷ [])
      ∙ ap (λ b. before ++ b) (sym (take_more batch i (message_of m)
      (slice_get-length batch i (message_of m) there) ∙ ap (λ y. take i batch ++ y ∷ [])
      (index-is batch i (message_of m) (message_of m) there)))

  -- one more, of the member of rank r
  pub one-more : (was counts : List ℕ) (i r : ℕ) (m : ℕ × ℕ) → IsView v → Counting v ms was counts i → slice_get ms i ≡ Some m
      → rank_of v m.0 ≡ Some r
      → Counting v ms was (slice_set counts r (slice_index_or counts r 0 + 1)) (i + 1)
  one-more was counts i r m view so_far at rank = record {
    room = λ k. set-below counts r (slice_index_or counts r 0 + 1) k (65519 + (i + 1)) (λ j. let le = so_far.room j in omega (arith, le))
        (let le = so_far.room r in omega (arith, le));
    counted = λ before e.
        ap (λ cs. slice_set cs r (slice_index_or cs r 0 + 1)) (so_far.counted before e)
        ∙ sym (counts_one_more v (before ++ take i batch) (message_of m) r view (rank-at v m.0 r rank))
        ∙ ap (counts_in v) (further before i m at);
  }

  -- one more, of one who is no member
  pub stranger : (was counts : List ℕ) (i : ℕ) (m : ℕ × ℕ) → Counting v ms was counts i → slice_get ms i ≡ Some m → rank_of v m.0 ≡ None
      → Counting v ms was counts (i + 1)
  stranger was counts i m so_far at none = record {
    room = λ k. let le = so_far.room k in omega (arith, le);
    counted = λ before e. so_far.counted before e ∙ sym (stranger-counts (before ++ take i batch) (message_of m) v.members apart) ∙ ap
        (counts_in v) (further before i m at);
  }
    where
      apart : (q : ℕ) → Mem q v.members → m.0 ≡ q → ⊥
      apart q there same =
          let rank = rank-of-member v m.0 (mem-list_any (λ p. p == m.0) v.members q there (eq-eqb q m.0 (sym same))) in
          let some = rank.1 in
          cc

  -- all of them
  pub whole : (was counts : List ℕ) (n : ℕ) → n ≡ length ms → Counting v ms was counts n → (before : List Message)
      → was ≡ counts_in v before → counts ≡ counts_in v (before ++ batch)
  whole was counts n all so_far before e = so_far.counted before e ∙ ap (λ b. counts_in v (before ++ b)) (take-all ms n all)
    where
      take-all : (ms : List (ℕ × ℕ)) (n : ℕ) → n ≡ length ms → take n (map message_of ms) ≡ map message_of ms
      take-all ms zero e = none ms e
        where
          none : (ms : List (ℕ × ℕ)) → zero ≡ length ms → take zero (map message_of ms) ≡ map message_of ms
          none [] e = refl
          none (m ∷ ms) e = absurd (omega (arith, e))
      take-all [] (suc n) e = refl
      take-all (m ∷ ms) (suc n) e = ap (λ xs. message_of m ∷ xs) (take-all ms n (omega (arith, e)))
