-- What the ranks show, from 0 on.
use Rattle.std.proofs.Common.{◌≡◌, ◌≢◌, ◌⊎◌, inl, inr, ℕ, zero, suc, ◌+◌, ◌<◌, ◌≤◌, List, [], ◌∷◌, length, Option, Some, None, Bool, true, false, refl, sym, ap, ◌∙◌, subst, arith}
use Rattle.std.specs.Prelude.{◌&&◌, ◌==◌, if◌then◌else◌, nat_lt, max, filter, fold, option_and_then, Ok, Err, Result}
use Rattle.std.specs.List.{AllByRecursion, range_with_len}
use Rattle.std.proofs.lemmas.Bool.{eqb-true, eqb-false, ltb-true, ltb-false}
use Rattle.byte_defs.specs.Choices.{first_some}
use Rattle.message_defs.specs.Limits.{last_rank}
use Rattle.message_defs.specs.Updates.{Value}
use Rattle.message_defs.specs.Statements.{Statement, Ready, ReadyAt, Claim, value_of, view_of}
use Rattle.message_defs.specs.Spelling.{IsClaim, IsStatement}
use Rattle.group_defs.specs.Views.{View, quorum, is_possible, next_view}
use Rattle.group_defs.specs.Process.{Setting, Pool, keyed}
use Rattle.group_defs.specs.Hearing.{is_valid}
use Rattle.group_defs.specs.Views.{is_member}
use Rattle.group_defs.specs.Certified.{backers, certified_on, number_of_members}
use Rattle.group_defs.specs.Settle.{decided_at}
use Rattle.rp_base.specs.Views.{update, value}
use Rattle.chain_defs.specs.declared.ChainFault.{ChainFault}
use Rattle.chain_defs.specs.declared.ChainFault.TheVariants.{Few}
use Rattle.chain_defs.specs.Advance.{is_ready, counts, counted, most_agreeing, shown, shows}
use Rattle.pool_laws.proofs.Counting.{fold-max}
use Rattle.pool_laws.proofs.Members.{Mem, filter-mem}
use Rattle.pool_laws.proofs.Tests.{and-first, some-same}
use Rattle.chain_check.specs.declared.readies.Leading.{Leading}
use Rattle.chain_check.specs.Readies.{IsLeading, sayers, shown_by}
use Rattle.chain_check.proofs.Counts.{heard-ready, leads-certified, none-certified}

-- ---- one rank

module _ (s : Setting) (h : Pool) (r : ℕ) (some : 1 ≤ number_of_members h) where
  none : certified_on h (ReadyAt h.view.number r) ≡ None → decided_at s h r ≡ None
  none e = ap
      (λ o. option_and_then (λ v. if is_possible (keyed s) h.view v.update then Some (r, v) else None) (option_and_then value_of o)) e

  pub decides : (l : Leading) (w : View) → IsLeading h r (Some l) → shown_by (keyed s) h.view l ≡ Some w
      → (decided_at s h r ≡ Some (r, value l.value)) × (next_view h.view (value l.value).update ≡ w)
  decides l w is e = go (nat_lt l.count (quorum (number_of_members h))) refl (is_possible (keyed s) h.view (update l.value.update)) refl e
    where
      go : (short : Bool) → nat_lt l.count (quorum (number_of_members h)) ≡ short → (may : Bool)
          → is_possible (keyed s) h.view (update l.value.update) ≡ may
          → (if short then None else (if may then Some (next_view h.view (update l.value.update)) else None)) ≡ Some w
          → (decided_at s h r ≡ Some (r, value l.value)) × (next_view h.view (value l.value).update ≡ w)
      go true f may g e = absurd cc
      go false f true g e = (
        ap (λ o. option_and_then (λ v. if is_possible (keyed s) h.view v.update then Some (r, v) else None) (option_and_then value_of o))
            (leads-certified h r some l is f) ∙ ap (λ b. if b then Some (r, value l.value) else None) g,
        some-same (next_view h.view (update l.value.update)) w e,
      )
      go false f false g e = absurd cc

  pub decides-not : (l : Leading) → IsLeading h r (Some l) → shown_by (keyed s) h.view l ≡ None → decided_at s h r ≡ None
  decides-not l is e = go (nat_lt l.count (quorum (number_of_members h))) refl (is_possible (keyed s) h.view (update l.value.update)) refl e
    where
      go : (short : Bool) → nat_lt l.count (quorum (number_of_members h)) ≡ short → (may : Bool)
          → is_possible (keyed s) h.view (update l.value.update) ≡ may
          → (if short then None else (if may then Some (next_view h.view (update l.value.update)) else None)) ≡ None
          → decided_at s h r ≡ None
      go true f may g e = none (none-certified h r some l.count is.3 (ltb-true l.count (quorum (number_of_members h)) f))
      go false f true g e = absurd cc
      go false f false g e =
          ap (λ o. option_and_then (λ v. if is_possible (keyed s) h.view v.update then Some (r, v) else None) (option_and_then value_of o))
          (leads-certified h r some l is f) ∙ ap (λ b. if b then Some (r, value l.value) else None) g

  pub nobody-decides : IsLeading h r None → decided_at s h r ≡ None
  nobody-decides is = none (none-certified h r some 0 (λ w. omega (arith, is w)) (above (number_of_members h) some))
    where
      above : (n : ℕ) → 1 ≤ n → 0 < quorum n
      above n some = omega (arith, some)

-- ---- the least

abbrev Decider : Type 0
Decider = ℕ → Option (ℕ × Value)

first-none : (f : Decider) (n a : ℕ) → ((j : ℕ) → a ≤ j → j < a + n → f j ≡ None) → first_some f (range_with_len a n) ≡ None
first-none f zero a not = refl
first-none f (suc n) a not = go (f a) (not a (omega arith) (omega arith))
    (first-none f n (a + 1) (λ j le lt. not j (omega (arith, le)) (omega (arith, lt))))
  where
    go : (o : Option (ℕ × Value)) → o ≡ None → first_some f (range_with_len (a + 1) n) ≡ None
        → (let it : Option (ℕ × Value) = elim o [ None ↦ first_some f (range_with_len (a + 1) n) | Some y ↦ Some y ] in it ≡ None)
    go None e rest = rest
    go (Some y) e rest = absurd cc

first-at : (f : Decider) (n a k : ℕ) (y : ℕ × Value) → a ≤ k → k < a + n → ((j : ℕ) → a ≤ j → j < k → f j ≡ None) → f k ≡ Some y
    → first_some f (range_with_len a n) ≡ Some y
first-at f zero a k y le lt not e = absurd (omega (arith, le, lt))
first-at f (suc n) a k y le lt not e = go (a == k) refl (λ up. first-at f n (a + 1) k y up (omega (arith, lt))
    (λ j low less. not j (omega (arith, low)) less) e)
  where
    here : (o : Option (ℕ × Value)) → o ≡ Some y
        → (let it : Option (ℕ × Value) = elim o [ None ↦ first_some f (range_with_len (a + 1) n) | Some y ↦ Some y ] in it ≡ Some y)
    here None e = absurd cc
    here (Some z) e = e

    later : (o : Option (ℕ × Value)) → o ≡ None → first_some f (range_with_len (a + 1) n) ≡ Some y
        → (let it : Option (ℕ × Value) = elim o [ None ↦ first_some f (range_with_len (a + 1) n) | Some y ↦ Some y ] in it ≡ Some y)
    later None e rest = rest
    later (Some z) e rest = absurd cc

    go : (b : Bool) → (a == k) ≡ b → (a + 1 ≤ k → first_some f (range_with_len (a + 1) n) ≡ Some y)
        → first_some f (range_with_len a (suc n)) ≡ Some y
    go true t rest = here (f a) (ap f (eqb-true a k t) ∙ e)
    go false t rest =
        let ne : a ≢ k = eqb-false a k t in
        let up : a + 1 ≤ k = omega (arith, le, ne) in
        later (f a) (not a (omega arith) (omega (arith, up))) (rest up)

-- ---- how many agree at most

fold-few : (n : Claim → ℕ) (cs : List Claim) (start most : ℕ) → start ≤ most → ((c : Claim) → Mem c cs → n c ≤ most)
    → fold (λ m c. max m (n c)) start cs ≤ most
fold-few n [] start most le each = le
fold-few n (c ∷ cs) start most le each =
    let first = each c (inl refl) in
    fold-few n cs (max start (n c)) most (omega (arith, le, first)) (λ d m. each d (inr m))

-- ---- what was seen of the ranks below one

pub record Below (s : Setting) (h : Pool) (r most : ℕ) : Type 0 where
  pub none : (j : ℕ) → j < r → decided_at s h j ≡ None
  pub few : (j : ℕ) (w : Value) → j < r → sayers h j w ≤ most
  pub within : most ≤ most_agreeing h

module _ (s : Setting) (h : Pool) where
  pub nothing-below : Below s h 0 0
  nothing-below = record { none = λ j lt. absurd (omega (arith, lt)); few = λ j w lt. absurd (omega (arith, lt)); within = omega arith }

  split : (r j : ℕ) → j < r + 1 → (j < r) ⊎ (j ≡ r)
  split r j lt = go (nat_lt j r) refl
    where
      go : (b : Bool) → nat_lt j r ≡ b → (j < r) ⊎ (j ≡ r)
      go true e = inl (ltb-true j r e)
      go false e = let ge = ltb-false j r e in inr (omega (arith, ge, lt))

  pub nobody-at : (r most : ℕ) → 1 ≤ number_of_members h → Below s h r most → IsLeading h r None → Below s h (r + 1) most
  nobody-at r most some below is = record {
    none = λ j lt. elim (split r j lt) [
      | inl less ↦ below.none j less
      | inr same ↦ subst (λ k. decided_at s h k ≡ None) (sym same) (nobody-decides s h r some is)
    ];
    few = λ j w lt. elim (split r j lt) [
      | inl less ↦ below.few j w less
      | inr same ↦ subst (λ k. sayers h k w ≤ most) (sym same) (let zero' = is w in omega (arith, zero'))
    ];
    within = below.within;
  }

  pub led-at : (r most : ℕ) (l : Leading) → 1 ≤ number_of_members h → Below s h r most → IsLeading h r (Some l)
      → shown_by (keyed s) h.view l ≡ None → Below s h (r + 1) (max most l.count)
  led-at r most l some below is e = record {
    none = λ j lt. elim (split r j lt) [
      | inl less ↦ below.none j less
      | inr same ↦ subst (λ k. decided_at s h k ≡ None) (sym same) (decides-not s h r some l is e)
    ];
    few = λ j w lt. elim (split r j lt) [
      | inl less ↦ (let le = below.few j w less in omega (arith, le))
      | inr same ↦ subst (λ k. sayers h k w ≤ max most l.count) (sym same) (let le = is.3 w in omega (arith, le))
    ];
    within =
        let claim = heard-ready h r (value l.value) (omega (arith, is.0, is.1)) in
        let le = fold-max (λ (c : Claim). length (backers h c.statement)) h.heard 0 claim.0 claim.1 in
        let counts' : length (backers h claim.0.statement) ≡ sayers h r (value l.value) = ap (λ st. length (backers h st)) claim.2 in
        let old = below.within in
        omega (arith, le, counts', old, is.0);
  }

-- ---- the answer

module _ (s : Setting) (v : View) (cs : List Claim) where
  abbrev pool : Pool
  pool = counted s v cs

  pub shows-next : (r most : ℕ) (l : Leading) (w : View) → 1 ≤ length v.members → r < 16 → Below s pool r most
      → IsLeading pool r (Some l) → shown_by (keyed s) v l ≡ Some w → shows s v cs ≡ Ok w
  shows-next r most l w some lt below is e =
      let d = decides s pool r some l w is e in
      let first = first-at (decided_at s pool) 16 0 r (r, value l.value) (omega arith) (omega (arith, lt)) (λ j le less. below.none j less) d.0 in
      ap answer first ∙ ap Ok d.1
    where
      answer : Option (ℕ × Value) → Result View ChainFault
      answer o = elim o [ None ↦ Err (Few (most_agreeing (counted s v cs))) | Some d ↦ Ok (next_view v d.1.update) ]

  pub shows-few : (most : ℕ) → AllByRecursion IsClaim cs → Below s pool 16 most → shows s v cs ≡ Err (Few most)
  shows-few most claims below =
      ap answer (first-none (decided_at s pool) 16 0 (λ j le lt. below.none j (omega (arith, lt)))) ∙ ap (λ n. Err (Few n)) same
    where
      answer : Option (ℕ × Value) → Result View ChainFault
      answer o = elim o [ None ↦ Err (Few (most_agreeing (counted s v cs))) | Some d ↦ Ok (next_view v d.1.update) ]

      of-all : (cs : List Claim) → AllByRecursion IsClaim cs → (c : Claim) → Mem c cs → IsClaim c
      of-all [] all c m = absurd m
      of-all (d ∷ cs) all c (inl is) = subst IsClaim is all.0
      of-all (d ∷ cs) all c (inr m) = of-all cs all.1 c m

      counted-few : (c : Claim) → IsClaim c → counts s v c ≡ true → length (backers (counted s v cs) c.statement) ≤ most
      counted-few c claim e = go c.statement claim.1
          (and-first (is_ready c.statement && (view_of c.statement == v.number)) (is_member v c.signer)
          (and-first (is_ready c.statement && (view_of c.statement == v.number) && is_member v c.signer) (is_valid s c) e))
        where
          go : (st : Statement) → IsStatement st → (is_ready st && (view_of st == v.number)) ≡ true
              → length (backers (counted s v cs) st) ≤ most
          go (Ready y r w) is e = subst (λ x. length (backers (counted s v cs) (Ready x r w)) ≤ most) (sym (eqb-true y v.number e))
              (below.few r w (let le = is.1 in omega (arith, le)))
          go _ is e = absurd cc

      under : most_agreeing (counted s v cs) ≤ most
      under = fold-few (λ (c : Claim). length (backers (counted s v cs) c.statement)) (counted s v cs).heard 0 most (omega arith) (λ c m.
          let from = filter-mem (counts s v) cs c m in counted-few c (of-all cs claims c from.0) from.1)

      same : most_agreeing (counted s v cs) ≡ most
      same = let over = below.within in let le = under in omega (arith, over, le)
