-- The least Order that is due, and how its batch is made and tried by counts.
use Rattle.std.proofs.Common.{◌≡◌, ◌≢◌, inl, inr, ℕ, zero, suc, ◌+◌, ◌<◌, List, [], ◌∷◌, ◌++◌, map, length, take, drop, Option, Some, None, Bool, true, false, cond, refl, sym, ap, ◌∙◌, subst, arith, slice_get}
use Rattle.std.specs.Prelude.{◌==◌, ◌&&◌, is_some, not, nat_lt, nat_le, if◌then◌else◌, option_and_then, option_map, slice_index_or, slice_set}
use Rattle.std.proofs.lemmas.Bool.{both_ways, eqb-true, eq-eqb, not-true, ne_eqb}
use Rattle.std.proofs.lemmas.List.{append-nil, append_assoc}
use Rattle.std.proofs.lemmas.List.Sums.{sum_by-append}
use Rattle.group_defs.specs.Below.{last_number, Message, Batch, Batch-discrete, Statement, Order, OrderAt}
use Rattle.group_defs.specs.Views.{rank_of, View}
use Rattle.group_defs.specs.Process.{Orders, Setting, Pool, Process, places_in}
use Rattle.group_defs.specs.Certified.{payload_at, named, is_signed, is_ended, own_orders, number_of_members}
use Rattle.group_defs.specs.Due.{window, may_sign, kind_of, is_of_rank, same_batch, next_of, next_message, next_messages, next_batch, follows, least_due}
use Rattle.pool_laws.specs.Least.{IsLeastBelow}
use Rattle.rule_laws.specs.Placing.{may_order, OrderIsLeast, counts_in, message_by, is_next, NextByCounts, CountsOneMore, BatchGoesOn, FollowsOn, BatchBegins, BatchIsFull, FollowsSoFar, FollowsBegins, FollowsWhole}
use Rattle.rule_laws.proofs.Least.{none_of_all, least_of_all}
use Rattle.rule_laws.proofs.Numbers.{least-same}
use Rattle.rule_laws.proofs.Ranks.{first-by-rank, rank-at, at-member}
use Rattle.rule_laws.proofs.Signable.{may-parts, may-now}
use Rattle.pool_laws.proofs.Members.{Mem}
use Rattle.pool_laws.proofs.Places.{Pairs, all-pairs, mem-slice_get, slice_get-index, slice_get-length, index-is}
use Rattle.pool_laws.proofs.Tests.{and-first, and-second, both-true, is-yes, some-and, yes-is}

-- ---- the statement

module _ (s : Setting) (p : Process) where
  abbrev x : ℕ
  x = p.pool.view.number

  abbrev k : ℕ
  k = length (own_orders p)

  abbrev pub order : Statement
  order = Order x k (next_batch p)

  abbrev pub ready : Bool
  ready = may_order p && nat_lt 0 (length (next_batch p))

  -- of the parts of the test, in its order: manager, open, the number, window, last number, some message, the batch
  seven : (a b c d e f g : Bool) → (a && b && c && d && e && f && g) ≡ true
      → (a ≡ true) × (b ≡ true) × (c ≡ true) × (d ≡ true) × (e ≡ true) × (f ≡ true) × (g ≡ true)
  seven a b c d e f g all =
      let six = and-first (a && b && c && d && e && f) g all in
      let five = and-first (a && b && c && d && e) f six in
      let four = and-first (a && b && c && d) e five in
      let three = and-first (a && b && c) d four in
      let two = and-first (a && b) c three in (
        and-first a b two,
        and-second a b two,
        and-second (a && b) c three,
        and-second (a && b && c) d four,
        and-second (a && b && c && d) e five,
        and-second (a && b && c && d && e) f six,
        and-second (a && b && c && d && e && f) g all,
      )

  -- the only Order that may be signed
  pub only-order : (st : Statement) → may_sign s p st ≡ true → kind_of st ≡ Orders → (st ≡ order) × (ready ≡ true)
  only-order (Order y j b) may is =
      let it = may-parts s p (Order y j b) may in
      let due = seven (is_of_rank p p.me 0) (not (is_ended p)) (j == k) (nat_lt j (places_in p.delivered + window)) (nat_le j last_number)
      (nat_lt 0 (length b)) (same_batch b (next_batch p)) it.due in
      let j_is : j ≡ k = eqb-true j k due.2 in
      let b_is : b ≡ next_batch p = yes-is (Batch-discrete b (next_batch p)) due.6 in
      let y_is : y ≡ x = it.current in (
        (λ i. Order (y_is i) (j_is i) (b_is i)),
        both-true _ _ (both-true _ _ (both-true _ _
            (both-true _ _ (both-true _ _ due.0 due.1) (subst (λ j. nat_lt j (places_in p.delivered + window) ≡ true) j_is due.3))
            (subst (λ j. nat_le j last_number ≡ true) j_is due.4))
            (ap not (subst (λ st. is_signed p (OrderAt st.0 st.1) ≡ false) (λ i. let at : ℕ × ℕ = (y_is i, j_is i) in at) it.unsigned)))
            (subst (λ b. nat_lt 0 (length b) ≡ true) b_is due.5),
      )
  only-order _ may is = absurd cc

  may : ready ≡ true → may_sign s p order ≡ true
  may e =
      let ready_to = and-first (may_order p) (nat_lt 0 (length (next_batch p))) e in
      let four = and-first (is_of_rank p p.me 0 && not (is_ended p) && nat_lt k (places_in p.delivered + window) && nat_le k last_number)
      (not (is_signed p (OrderAt x k))) ready_to in
      let three = and-first (is_of_rank p p.me 0 && not (is_ended p) && nat_lt k (places_in p.delivered + window))
      (nat_le k last_number) four in
      let two = and-first (is_of_rank p p.me 0 && not (is_ended p)) (nat_lt k (places_in p.delivered + window)) three in
      let rank = some-and (rank_of p.pool.view p.me) (λ rank. rank == 0) (and-first (is_of_rank p p.me 0) (not (is_ended p)) two) in
      may-now s p order (record {
        member = at-member p.pool.view p.me rank.0 (rank-at p.pool.view p.me rank.0 rank.1);
        current = refl;
        unsigned = not-true _ (and-second
            (is_of_rank p p.me 0 && not (is_ended p) && nat_lt k (places_in p.delivered + window) && nat_le k last_number)
            (not (is_signed p (OrderAt x k))) ready_to);
        due = both-true _ _ (both-true _ _
            (both-true _ _ (both-true _ _ (both-true _ _ two (eq-eqb k k refl))
            (and-second (is_of_rank p p.me 0 && not (is_ended p)) (nat_lt k (places_in p.delivered + window)) three))
            (and-second (is_of_rank p p.me 0 && not (is_ended p) && nat_lt k (places_in p.delivered + window)) (nat_le k last_number) four))
            (and-second (may_order p) (nat_lt 0 (length (next_batch p))) e)) (is-yes (Batch-discrete (next_batch p) (next_batch p)) refl);
      })

pub order_is_least : OrderIsLeast
order_is_least s p = go (ready s p) refl
  where
    go : (b : Bool) → ready s p ≡ b → least_due s p Orders ≡ (if b then Some (order s p) else None)
    go true e = least_of_all s p (order s p) (may s p e) (λ other m is. inl ((only-order s p other m is).0))
    go false e = none_of_all s p Orders (λ st is. never st is (may_sign s p st) refl)
      where
        never : (st : Statement) → kind_of st ≡ Orders → (b : Bool) → may_sign s p st ≡ b → b ≡ false
        never st is true m = absurd (both_ways _ e ((only-order s p st m is).1))
        never st is false m = refl

-- ---- the batch by counts

index-map : {A B : Type 0} (g : A → B) (xs : List A) (i : ℕ) (a : A) (b : B) → i < length xs
    → slice_index_or (map g xs) i b ≡ g (slice_index_or xs i a)
index-map g [] i a b lt = absurd (omega (arith, lt))
index-map g (x ∷ xs) zero a b lt = refl
index-map g (x ∷ xs) (suc i) a b lt = index-map g xs i a b (omega (arith, lt))

module _ (h : Pool) (before : List Message) where
  abbrev counts : List ℕ
  counts = counts_in h.view before

  abbrev next_at : ℕ → Option Message
  next_at r = next_of h before (slice_index_or h.view.members r 0)

  by-count : (r : ℕ) → r < length h.view.members → next_at r ≡ (if is_next h counts r then Some (message_by h.view counts r) else None)
  by-count r lt = ap (λ n. if is_some (payload_at h (record { sender = slice_index_or h.view.members r 0; number = n }))
      then Some (record { sender = slice_index_or h.view.members r 0; number = n }) else None)
      (sym (index-map (λ m. named m before) h.view.members r 0 0 lt))

  is-next : (r : ℕ) → r < length h.view.members → is_some (next_at r) ≡ is_next h counts r
  is-next r lt = ap is_some (by-count r lt) ∙ go (is_next h counts r)
    where
      go : (b : Bool) → is_some (if b then Some (message_by h.view counts r) else None) ≡ b
      go true = refl
      go false = refl

pub next_by_counts : NextByCounts
next_by_counts h before o least = first-by-rank (next_of h before) 0 h.view.members o
    (least-same 0 (number_of_members h) (is_next h (counts h before)) _ o (λ r le lt. sym (is-next h before r lt)) least) ∙ go o least
  where
    go : (o : Option ℕ) → IsLeastBelow (number_of_members h) (is_next h (counts h before)) o
        → option_and_then (next_at h before) o ≡ option_map (message_by h.view (counts h before)) o
    go None least = refl
    go (Some r) least = by-count h before r least.1 ∙ ap (λ b. if b then Some (message_by h.view (counts h before) r) else None) least.2

-- ---- counts

snoc-count : (s : ℕ) (ms : List Message) (m : Message) → named s (ms ++ m ∷ []) ≡ (if m.sender == s then suc (named s ms) else named s ms)
snoc-count s ms m = sum_by-append (λ (m : Message). cond (m.sender == s) 1 0) ms (m ∷ []) ∙ go (m.sender == s) (named s ms)
  where
    go : (b : Bool) (n : ℕ) → n + (0 + cond b 1 0) ≡ (if b then suc n else n)
    go true n = omega arith
    go false n = omega arith

-- of other members the count stays, and that of the sender's rank rises
count-stays : (before : List Message) (m : Message) (ms : List ℕ) → ((q : ℕ) → Mem q ms → m.sender ≡ q → ⊥)
    → map (λ q. named q (before ++ m ∷ [])) ms ≡ map (λ q. named q before) ms
count-stays before m [] apart = refl
count-stays before m (q ∷ ms) apart =
    let here : named q (before ++ m ∷ [])
    ≡ named q before = snoc-count q before m ∙ ap (λ b. if b then suc (named q before) else named q before)
    (ne_eqb m.sender q (apart q (inl refl))) in
    let rest = count-stays before m ms (λ q' there. apart q' (inr there)) in
    λ i. here i ∷ rest i

one-more : (before : List Message) (m : Message) (ms : List ℕ) (r : ℕ) → Pairs (λ a b. a ≢ b) ms → slice_get ms r ≡ Some m.sender
    → map (λ q. named q (before ++ m ∷ [])) ms ≡ slice_set (map (λ q. named q before) ms) r (suc (named m.sender before))
one-more before m [] r apart at = absurd cc
one-more before m (q ∷ ms) zero apart at =
    let is : q ≡ m.sender = cc in
    let here : named q (before ++ m ∷ [])
    ≡ suc (named m.sender before) = snoc-count q before m ∙ ap (λ b. if b then suc (named q before) else named q before)
    (eq-eqb m.sender q (sym is)) ∙ ap (λ q. suc (named q before)) is in
    let rest = count-stays before m ms
    (λ q' there same. let j = mem-slice_get ms q' there in apart zero (suc j.0) q q' (omega arith) refl j.1 (is ∙ same)) in
    λ i. here i ∷ rest i
one-more before m (q ∷ ms) (suc r) apart at =
    let other : m.sender ≡ q → ⊥ = λ same. apart zero (suc r) q m.sender (omega arith) refl at (sym same) in
    let here : named q (before ++ m ∷ [])
    ≡ named q before = snoc-count q before m ∙ ap (λ b. if b then suc (named q before) else named q before) (ne_eqb m.sender q other) in
    let rest = one-more before m ms r (λ i j a b lt at_i at_j. apart (suc i) (suc j) a b (omega (arith, lt)) at_i at_j) at in
    λ i. here i ∷ rest i

-- the count of a member is that of its rank
count-at : (v : View) (before : List Message) (r m : ℕ) → slice_get v.members r ≡ Some m
    → slice_index_or (counts_in v before) r 0 ≡ named m before
count-at v before r m at = index-map (λ q. named q before) v.members r 0 0 (slice_get-length v.members r m at) ∙ ap (λ q. named q before)
    (index-is v.members r 0 m at)

pub counts_one_more : CountsOneMore
counts_one_more v before m r view at =
    let more : suc (named m.sender before)
    ≡ slice_index_or (counts_in v before) r 0 + 1 = (let is = count-at v before r m.sender at in omega (arith, is)) in
    one-more before m v.members r (all-pairs (λ a b. a ≢ b) v.members view.distinct) at ∙ ap (slice_set (counts_in v before) r) more

-- ---- the batch, message by message

pub batch_begins : BatchBegins
batch_begins h before limit = record {
  counts = ap (counts_in h.view) (sym (append-nil before));
  rest = ap (next_messages limit h) (sym (append-nil before));
}

one-message : (h : Pool) (more : ℕ) (before : List Message) (o : Option Message) → next_message h before ≡ o
    → next_messages (suc more) h before ≡ (elim o [ None ↦ [] | Some m ↦ m ∷ next_messages more h (before ++ m ∷ []) ])
unfolding next_messages
one-message h more before o e = ap
    (λ (o : Option Message). let it : Batch = elim o [ None ↦ [] | Some m ↦ m ∷ next_messages more h (before ++ m ∷ []) ] in it) e

pub batch_goes_on : BatchGoesOn
batch_goes_on h before limit b cs more None view so_far none =
    let e = next_by_counts h (before ++ b) None (subst (λ cs. IsLeastBelow (number_of_members h) (is_next h cs) None) so_far.counts none) in
    so_far.rest ∙ ap (λ ms. b ++ ms) (one-message h more (before ++ b) None e) ∙ append-nil b
batch_goes_on h before limit b cs more (Some r) view so_far least =
    let e = next_by_counts h (before ++ b) (Some r)
    (subst (λ cs. IsLeastBelow (number_of_members h) (is_next h cs) (Some r)) so_far.counts least) in
    let m : Message = message_by h.view (counts_in h.view (before ++ b)) r in
    let m_is : m ≡ message_by h.view cs r = ap (λ cs. message_by h.view cs r) (sym so_far.counts) in
    let at = slice_get-index h.view.members r 0 least.1 in
    let again : (before ++ b) ++ m ∷ [] ≡ before
    ++ (b ++ message_by h.view cs r ∷ []) = append_assoc before b (m ∷ []) ∙ ap (λ m. before ++ (b ++ m ∷ [])) m_is in
    record {
      counts = sym (sym (ap (counts_in h.view) again) ∙ counts_one_more h.view (before ++ b) m r view at ∙ ap
          (λ cs. slice_set cs r (slice_index_or cs r 0 + 1)) (sym so_far.counts));
      rest = so_far.rest ∙ ap (λ ms. b ++ ms)
          (one-message h more (before ++ b) (Some m) e ∙ (λ i. m_is i ∷ next_messages more h (again i))) ∙ sym
          (append_assoc b (message_by h.view cs r ∷ []) (next_messages more h (before ++ (b ++ message_by h.view cs r ∷ []))));
    }

pub batch_is_full : BatchIsFull
unfolding next_messages
batch_is_full h before limit b cs so_far = so_far.rest ∙ append-nil b

-- ---- whether a batch follows, message by message

pub follows_begins : FollowsBegins
follows_begins v before b = record {
  counts = ap (counts_in v) (sym (append-nil before));
  rest = ap (λ ms. follows ms b) (sym (append-nil before));
}

take-more : (b : Batch) (i : ℕ) (m : Message) → slice_get b i ≡ Some m
    → (take (i + 1) b ≡ take i b ++ m ∷ []) × (drop i b ≡ m ∷ drop (i + 1) b)
take-more b i m at = let one : i + 1
    ≡ suc i = omega arith in subst (λ j. (take j b ≡ take i b ++ m ∷ []) × (drop i b ≡ m ∷ drop j b)) (sym one) (go b i at)
  where
    go : (b : Batch) (i : ℕ) → slice_get b i ≡ Some m → (take (suc i) b ≡ take i b ++ m ∷ []) × (drop i b ≡ m ∷ drop (suc i) b)
    go [] i at = absurd cc
    go (n ∷ b) zero at = let is : n ≡ m = cc in ((λ i. is i ∷ []), λ i. is i ∷ b)
    go (n ∷ b) (suc i) at = let rest = go b i at in (ap (λ ms. n ∷ ms) rest.0, rest.1)

pub follows_on : FollowsOn
follows_on v before b cs i r m view so_far at member = (yes_, no_)
  where
    count : slice_index_or cs r 0 ≡ named m.sender (before ++ take i b)
    count = ap (λ cs. slice_index_or cs r 0) so_far.counts ∙ count-at v (before ++ take i b) r m.sender member

    rest : follows before b ≡ ((m.number == slice_index_or cs r 0) && follows ((before ++ take i b) ++ m ∷ []) (drop (i + 1) b))
    rest = so_far.rest ∙ ap (follows (before ++ take i b))
        (take-more b i m at).1 ∙ ap (λ n. (m.number == n) && follows ((before ++ take i b) ++ m ∷ []) (drop (i + 1) b)) (sym count)

    again : (before ++ take i b) ++ m ∷ [] ≡ before ++ take (i + 1) b
    again = append_assoc before (take i b) (m ∷ []) ∙ ap (λ ms. before ++ ms) (sym (take-more b i m at).0)

    no_ : (m.number == slice_index_or cs r 0) ≡ false → follows before b ≡ false
    no_ e = rest ∙ ap (λ t. t && follows ((before ++ take i b) ++ m ∷ []) (drop (i + 1) b)) e

    yes_ : (m.number == slice_index_or cs r 0) ≡ true → FollowsSoFar v before b (slice_set cs r (slice_index_or cs r 0 + 1)) (i + 1)
    yes_ e = record {
      counts = sym (sym (ap (counts_in v) again) ∙ counts_one_more v (before ++ take i b) m r view member ∙ ap
          (λ cs. slice_set cs r (slice_index_or cs r 0 + 1)) (sym so_far.counts));
      rest = rest ∙ ap (λ t. t && follows ((before ++ take i b) ++ m ∷ []) (drop (i + 1) b)) e ∙ ap
          (λ ms. follows ms (drop (i + 1) b)) again;
    }

pub follows_whole : FollowsWhole
follows_whole v before b cs so_far = so_far.rest ∙ ap (follows (before ++ take (length b) b)) (drop-all b)
  where
    drop-all : (b : Batch) → drop (length b) b ≡ []
    drop-all [] = refl
    drop-all (m ∷ b) = drop-all b
