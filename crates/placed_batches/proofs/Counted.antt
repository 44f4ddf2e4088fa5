-- Rows of counts, with one message, one batch and one place more.
use Rattle.std.proofs.Common.{◌≡◌, ◌≢◌, inl, inr, ℕ, zero, suc, ◌+◌, ◌*◌, ◌<◌, ◌≤◌, List, [], ◌∷◌, ◌++◌, map, length, take, Some, None, Bool, true, false, refl, sym, ap, ◌∙◌, subst, arith, slice_get, length-append, get_or-set_same, get_or-set_other}
use Rattle.std.specs.Prelude.{◌==◌, cond, replicate, slice_index, slice_index_or, slice_set}
use Rattle.std.specs.List.{AllByRecursion}
use Rattle.std.proofs.lemmas.Bool.{cases_eq, eq-eqb, ne_eqb}
use Rattle.std.proofs.lemmas.List.{append-nil, append_assoc, take-append-le, length-set, length-take}
use Rattle.std.proofs.lemmas.List.Concat.{flat_map-append}
use Rattle.std.proofs.lemmas.List.Sums.{sum_by-append}
use Rattle.message_defs.specs.Statements.{Message, Batch}
use Rattle.group_defs.specs.Views.{View, IsView, rank_of}
use Rattle.group_defs.specs.Certified.{named, messages}
use Rattle.rule_laws.specs.Placing.{counts_in}
use Rattle.rule_laws.proofs.Ordering.{counts_one_more}
use Rattle.rule_laws.proofs.Ranks.{rank-at}
use Rattle.rule_laws.proofs.Below.{Mem, mem-list_any, slice_get-index, slice_get-snoc, slice_get-length, take-get, rank-of-member}
use Rattle.stmt_codec.specs.Batches.{message_of}
use Rattle.placed_batches.specs.Rows.{IsRow, AreRows, IsPrefix}

-- ---- one message more

module _ (v : View) (view : IsView v) (ms : List Message) (m : Message) where
  stays : (q : ℕ) → m.sender ≢ q → named q (ms ++ m ∷ []) ≡ named q ms
  stays q other = sum_by-append (λ (m : Message). cond (m.sender == q) 1 0) ms (m ∷ []) ∙ go (m.sender == q) (ne_eqb m.sender q other)
      (named q ms)
    where
      go : (b : Bool) → b ≡ false → (n : ℕ) → n + (0 + cond b 1 0) ≡ n
      go true e n = absurd cc
      go false e n = omega arith

  -- of a process that is no member nothing is counted
  pub no-count : (row : List ℕ) → IsRow v ms row → rank_of v m.sender ≡ None → IsRow v (ms ++ m ∷ []) row
  no-count row is none = record {
    counts = is.counts ∙ sym (same v.members (λ q there e. stranger q there e));
    wide = is.wide;
    small = λ r. let le = is.small r in omega (arith, le, length-append ms (m ∷ []));
  }
    where
      stranger : (q : ℕ) → Mem q v.members → m.sender ≡ q → ⊥
      stranger q there e =
          let rank = rank-of-member v q (mem-list_any (λ p. p == q) v.members q there (eq-eqb q q refl)) in
          let some = rank.1 in
          let none' : rank_of v q ≡ None = subst (λ p. rank_of v p ≡ None) e none in
          cc

      same : (qs : List ℕ) → ((q : ℕ) → Mem q qs → m.sender ≡ q → ⊥) → map (λ q. named q (ms ++ m ∷ [])) qs ≡ map (λ q. named q ms) qs
      same [] apart = refl
      same (q ∷ qs) apart = let here = stays q (apart q (inl refl)) in let rest = same qs (λ p there. apart p (inr there)) in λ i. here i
          ∷ rest i

  -- at the sender's rank one more
  pub one-count : (row : List ℕ) (r : ℕ) → IsRow v ms row → rank_of v m.sender ≡ Some r
      → IsRow v (ms ++ m ∷ []) (slice_set row r (slice_index row r + 1))
  one-count row r is rank =
      let at = rank-at v m.sender r rank in
      let lt = slice_get-length v.members r m.sender at in
      let n_is : length v.members ≤ length row = (let wide = is.wide in let few = view.few in omega (arith, wide, few)) in
      let same : slice_index row r ≡ slice_index (counts_in v ms) r = sym (taken row (length v.members) r lt) ∙ ap
      (λ xs. slice_index xs r) is.counts in
      record {
        counts = take-set row (length v.members) r (slice_index row r + 1) lt ∙ (λ i. slice_set (is.counts i) r (same i + 1)) ∙ sym
            (counts_one_more v ms m r view at);
        wide = length-set row r (slice_index row r + 1) ∙ is.wide;
        small = λ j. elim (cases_eq j r) [
          | inl e ↦ (let here = ap (λ j. slice_index (slice_set row r (slice_index row r + 1)) j) e ∙ get_or-set_same row r
              (slice_index row r + 1) 0 (omega (arith, lt, n_is)) in let le = is.small r in omega
              (arith, here, le, length-append ms (m ∷ [])))
          | inr ne ↦ (let there = get_or-set_other row r j (slice_index row r + 1) 0 ne in let le = is.small j in omega
              (arith, there, le, length-append ms (m ∷ [])))
        ];
      }
    where
      take-set : (row : List ℕ) (n r x : ℕ) → r < n → take n (slice_set row r x) ≡ slice_set (take n row) r x
      take-set row zero r x lt = absurd (omega (arith, lt))
      take-set [] (suc n) r x lt = refl
      take-set (y ∷ row) (suc n) zero x lt = refl
      take-set (y ∷ row) (suc n) (suc r) x lt = ap (λ xs. y ∷ xs) (take-set row n r x (omega (arith, lt)))

      taken : (row : List ℕ) (n r : ℕ) → r < n → slice_index (take n row) r ≡ slice_index row r
      taken row zero r lt = absurd (omega (arith, lt))
      taken [] (suc n) r lt = refl
      taken (x ∷ row) (suc n) zero lt = refl
      taken (x ∷ row) (suc n) (suc r) lt = taken row n r (omega (arith, lt))

-- ---- a batch, message by message

-- behind any messages of these counts, so many of the batch are counted; no count has risen by more than that
pub record SoFar (v : View) (ms : List (ℕ × ℕ)) (row row' : List ℕ) (i : ℕ) : Type 0 where
  pub rows : (before : List Message) → IsRow v before row → IsRow v (before ++ map message_of (take i ms)) row'
  pub risen : (r : ℕ) → slice_index row' r ≤ 16384 + i
  pub wide : length row' ≡ 16

module _ (v : View) (view : IsView v) (ms : List (ℕ × ℕ)) (row : List ℕ) where
  pub none-yet : ((r : ℕ) → slice_index row r ≤ 16384) → length row ≡ 16 → SoFar v ms row row 0
  none-yet small wide = record {
    wide = wide;
    rows = λ before is. subst (λ xs. IsRow v xs row) (sym (ap (λ xs. before ++ xs) (nothing ms) ∙ append-nil before)) is;
    risen = λ r. let le = small r in omega (arith, le);
  }
    where
      nothing : (ms : List (ℕ × ℕ)) → map message_of (take zero ms) ≡ []
      nothing [] = refl
      nothing (m ∷ ms) = refl

  module _ (row' : List ℕ) (i : ℕ) (m : ℕ × ℕ) (so_far : SoFar v ms row row' i) (at : slice_get ms i ≡ Some m) where
    one-more : map message_of (take (i + 1) ms) ≡ map message_of (take i ms) ++ message_of m ∷ []
    one-more = let one : i + 1 ≡ suc i = omega arith in ap (λ n. map message_of (take n ms)) one ∙ go ms i at
      where
        go : (ms : List (ℕ × ℕ)) (i : ℕ) → slice_get ms i ≡ Some m
            → map message_of (take (suc i) ms) ≡ map message_of (take i ms) ++ message_of m ∷ []
        go [] i at = absurd cc
        go (x ∷ ms) zero at = let is : x ≡ m = cc in alone ms ∙ ap (λ x. message_of x ∷ []) is
          where
            alone : (ms : List (ℕ × ℕ)) → map message_of (take (suc zero) (x ∷ ms)) ≡ message_of x ∷ []
            alone [] = refl
            alone (y ∷ ms) = refl
        go (x ∷ ms) (suc i) at = ap (λ xs. message_of x ∷ xs) (go ms i at)

    again : (before : List Message)
        → (before ++ map message_of (take i ms)) ++ message_of m ∷ [] ≡ before ++ map message_of (take (i + 1) ms)
    again before = append_assoc before (map message_of (take i ms)) (message_of m ∷ []) ∙ ap (λ xs. before ++ xs) (sym one-more)

    pub skipped : rank_of v m.0 ≡ None → SoFar v ms row row' (i + 1)
    skipped none = record {
      wide = so_far.wide;
      rows = λ before is. subst (λ xs. IsRow v xs row') (again before)
          (no-count v view (before ++ map message_of (take i ms)) (message_of m) row' (so_far.rows before is) none);
      risen = λ r. let le = so_far.risen r in omega (arith, le);
    }

    pub count-one : (r : ℕ) → rank_of v m.0 ≡ Some r → r < length row' → SoFar v ms row (slice_set row' r (slice_index row' r + 1)) (i + 1)
    count-one r rank lt = record {
      wide = length-set row' r (slice_index row' r + 1) ∙ so_far.wide;
      rows = λ before is. subst (λ xs. IsRow v xs (slice_set row' r (slice_index row' r + 1))) (again before)
          (one-count v view (before ++ map message_of (take i ms)) (message_of m) row' r (so_far.rows before is) rank);
      risen = λ j. elim (cases_eq j r) [
        | inl e ↦ (let here = ap (λ j. slice_index (slice_set row' r (slice_index row' r + 1)) j) e ∙ get_or-set_same row' r
            (slice_index row' r + 1) 0 lt in let le = so_far.risen r in omega (arith, here, le))
        | inr ne ↦ (let there = get_or-set_other row' r j (slice_index row' r + 1) 0 ne in let le = so_far.risen j in omega
            (arith, there, le))
      ];
    }

  pub whole : (row' : List ℕ) (n : ℕ) → n ≡ length ms → SoFar v ms row row' n → (before : List Message) → IsRow v before row
      → IsRow v (before ++ map message_of ms) row'
  whole row' n all so_far before is = subst (λ xs. IsRow v (before ++ map message_of xs) row') (ap (λ n. take n ms) all ∙ take-whole ms)
      (so_far.rows before is)
    where
      take-whole : {A : Type 0} (xs : List A) → take (length xs) xs ≡ xs
      take-whole [] = refl
      take-whole (x ∷ xs) = ap (λ ys. x ∷ ys) (take-whole xs)

-- ---- one place more

pub messages-push : (bs : List Batch) (b : Batch) → messages (bs ++ b ∷ []) ≡ messages bs ++ b
messages-push bs b = flat_map-append (λ b. b) bs (b ∷ []) ∙ ap (λ ms. messages bs ++ ms) (append-nil b)

few-push : (bs : List Batch) (b : Batch) → AllByRecursion (λ b. length b ≤ 16) bs → length b ≤ 16
    → AllByRecursion (λ b. length b ≤ 16) (bs ++ b ∷ [])
few-push [] b few le = (le, tt)
few-push (x ∷ bs) b few le = (few.0, few-push bs b few.1 le)

few-messages : (bs : List Batch) → AllByRecursion (λ b. length b ≤ 16) bs → length (messages bs) ≤ 16 * length bs
few-messages [] few = omega arith
few-messages (b ∷ bs) few = let rest = few-messages bs few.1 in omega (arith, few.0, rest, length-append b (messages bs))

pub rows-push : (v : View) (bs : List Batch) (rows : List (List ℕ)) (b : Batch) (row : List ℕ) → AreRows v bs rows → length b ≤ 16
    → IsRow v (messages bs ++ b) row → AreRows v (bs ++ b ∷ []) (rows ++ row ∷ [])
rows-push v bs rows b row are few is = record {
  many = (let many = are.many in omega (arith, many, length-append rows (row ∷ []), length-append bs (b ∷ [])));
  few = few-push bs b are.few few;
  counted = λ k r at. elim (slice_get-snoc rows row k r at) [
    | inl early ↦ (let lt = slice_get-length rows k r early in let many = are.many in let le : k
        ≤ length bs = omega (arith, lt, many) in subst (λ xs. IsRow v (messages xs) r) (sym (take-append-le k bs (b ∷ []) le))
        (are.counted k r early))
    | inr late ↦ (
        let many = are.many in
        let k_is : k ≡ length (bs ++ b ∷ []) = (let end = late.0 in omega (arith, end, many, length-append bs (b ∷ []))) in
        let all : take k (bs ++ b ∷ []) ≡ bs ++ b ∷ [] = ap (λ k. take k (bs ++ b ∷ [])) k_is ∙ take-whole (bs ++ b ∷ []) in
        subst (IsRow v (messages (take k (bs ++ b ∷ [])))) late.1
        (subst (λ ms. IsRow v ms row) (sym (ap messages all ∙ messages-push bs b)) is))
  ];
}
  where
    take-whole : {A : Type 0} (xs : List A) → take (length xs) xs ≡ xs
    take-whole [] = refl
    take-whole (x ∷ xs) = ap (λ ys. x ∷ ys) (take-whole xs)

-- ---- the first places

few-taken : (n : ℕ) (bs : List Batch) → AllByRecursion (λ b. length b ≤ 16) bs → AllByRecursion (λ b. length b ≤ 16) (take n bs)
few-taken zero [] few = tt
few-taken zero (b ∷ bs) few = tt
few-taken (suc n) [] few = tt
few-taken (suc n) (b ∷ bs) few = (few.0, few-taken n bs few.1)

taken-again : {A : Type 0} (k n : ℕ) (xs : List A) → k ≤ n → take k (take n xs) ≡ take k xs
taken-again zero n xs le = none (take n xs) ∙ sym (none xs)
  where
    none : {A : Type 0} (xs : List A) → take zero xs ≡ []
    none [] = refl
    none (x ∷ xs) = refl
taken-again (suc k) zero xs le = absurd (omega (arith, le))
taken-again (suc k) (suc n) [] le = refl
taken-again (suc k) (suc n) (x ∷ xs) le = ap (λ more. x ∷ more) (taken-again k n xs (omega (arith, le)))

pub first-rows : (v : View) (bs : List Batch) (rows : List (List ℕ)) (for_batches for_rows n : ℕ)
    → IsPrefix v bs rows for_batches for_rows → IsPrefix v (take n bs) (take (n + 1) rows) for_batches for_rows
first-rows v bs rows for_batches for_rows n is =
    let short = length-take n bs in
    let many = length-take (n + 1) rows in
    record {
      counted = record {
        many = (let all = is.counted.many in omega (arith, short, many, all));
        few = few-taken n bs is.counted.few;
        counted = λ k row at.
            let lt : k < n + 1 = (let within = slice_get-length (take (n + 1) rows) k row at in omega (arith, within, many)) in
            subst (λ xs. IsRow v (messages xs) row) (sym (taken-again k n bs (omega (arith, lt))))
            (is.counted.counted k row (take-get (n + 1) rows k row at));
      };
      most = (let most = is.most in omega (arith, short, most));
      room = is.room;
      rows_room = is.rows_room;
    }

-- ---- no place

zeros : (qs : List ℕ) (n : ℕ) → length qs ≤ n → take {A = ℕ} (length qs) (replicate n 0) ≡ map (λ q. named q []) qs
zeros [] n le = none n
  where
    none : (n : ℕ) → take {A = ℕ} zero (replicate n 0) ≡ []
    none zero = refl
    none (suc n) = refl
zeros (q ∷ qs) zero le = absurd (omega (arith, le))
zeros (q ∷ qs) (suc n) le = ap (λ xs. 0 ∷ xs) (zeros qs n (omega (arith, le)))

zero-at : (n r : ℕ) → slice_index (replicate {A = ℕ} n 0) r ≤ 0
zero-at zero r = omega arith
zero-at (suc n) zero = omega arith
zero-at (suc n) (suc r) = zero-at n r

pub rows-begin : (v : View) → IsView v → AreRows v [] (replicate 16 0 ∷ [])
rows-begin v view = record {
  many = refl;
  few = tt;
  counted = λ k row at. one k row at;
}
  where
    first : IsRow v [] (replicate 16 0)
    first = record { counts = zeros v.members 16 view.few; wide = refl; small = zero-at 16 }

    one : (k : ℕ) (row : List ℕ) → slice_get (replicate 16 0 ∷ []) k ≡ Some row → IsRow v (messages (take k [])) row
    one zero row at = let is : replicate 16 0 ≡ row = cc in subst (IsRow v []) is first
    one (suc k) row at = absurd cc

pub begun : (v : View) (bs : List Batch) (rows : List (List ℕ)) (for_batches for_rows : ℕ) → IsView v → bs ≡ [] → rows ≡ replicate 16 0 ∷ []
    → 1024 ≤ for_batches → 1025 ≤ for_rows → IsPrefix v bs rows for_batches for_rows
begun v bs rows for_batches for_rows view none one room rows_room = record {
  counted = subst (λ (xs : List (List ℕ)). AreRows v bs xs) (sym one)
      (subst (λ (xs : List Batch). AreRows v xs (replicate 16 0 ∷ [])) (sym none) (rows-begin v view));
  most = (let e = ap length none in omega (arith, e));
  room = room;
  rows_room = rows_room;
}

-- ---- the last row

pub last-row : (v : View) (bs : List Batch) (rows : List (List ℕ)) (k : ℕ) (row : List ℕ) → AreRows v bs rows → k ≡ length bs
    → row ≡ slice_index_or rows k row → IsRow v (messages bs) row
last-row v bs rows k row are k_is at =
    let lt : k < length rows = (let many = are.many in omega (arith, many, k_is)) in
    let here : slice_get rows k ≡ Some row = slice_get-index rows k row lt ∙ ap Some (sym at) in
    subst (λ xs. IsRow v (messages xs) row) (ap (λ n. take n bs) k_is ∙ take-all bs) (are.counted k row here)
  where
    take-all : {A : Type 0} (xs : List A) → take (length xs) xs ≡ xs
    take-all [] = refl
    take-all (x ∷ xs) = ap (λ ys. x ∷ ys) (take-all xs)

pub last-small : (v : View) (bs : List Batch) (rows : List (List ℕ)) (k : ℕ) (row : List ℕ) → AreRows v bs rows → length bs < 1024
    → k ≡ length bs → row ≡ slice_index_or rows k row → (r : ℕ) → slice_index row r ≤ 16384
last-small v bs rows k row are lt k_is at r = let le = (last-row v bs rows k row are k_is at).small r in let all = few-messages bs are.few in omega
    (arith, le, all, lt)
