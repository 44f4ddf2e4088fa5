-- The members of a mask: whether a process is among them, and what a bit that is set adds.
use Rattle.std.proofs.Common.{◌≡◌, ℕ, zero, suc, ◌+◌, ◌*◌, ◌%◌, ◌^◌, ◌<◌, ◌≤◌, ◌≢◌, Bool, true, false, cond, List, [], ◌∷◌, ◌++◌, refl, sym, ap, ◌∙◌, arith, subst, inl, inr, bit_or, bit_and}
use Rattle.std.proofs.lemmas.Bool.{cases_eq, cases_lt, false≢true, eq-eqb, ne_eqb, lt-ltb, le-ltb, false_from_ne_true}
use Rattle.std.proofs.lemmas.Slice.Eq.{bytes_eq-Decides}
use Rattle.std.proofs.lemmas.Nat.Bits.{bit_at_set_same, bit_at_set_other, bit_at_clear_same, bit_at_clear_other, bit_at_above, bit_at-trailing_zeros}
use Rattle.std.proofs.lemmas.Nat.{and_le_l}
use Rattle.std.proofs.lemmas.List.Elements.{All-tail}
use lib.Pointwise.{pointwise}
use Rattle.std.specs.Prelude.{nat_eq, Option, Some, None, IfSome, IsSome, MatchOption, ◌↔◌, filter, ◌==◌, All}
use Rattle.std.specs.List.{list_any, range_with_len}
use Rattle.std.specs.Int.{bit_at, bit_not, trailing_zeros, w64}
use Rattle.rp_base.specs.Pids.{all_numbers, members, mask_of, put_once}
use Rattle.rp_base.specs.Masks.{mask_of-members}
use Rattle.rp_base.proofs.Copies.{matches_itself}

-- the number is in the list
abbrev has : List ℕ → ℕ → Bool
has ps p = list_any (λ q. q == p) ps

-- those of n numbers from a on that pass a test
abbrev among : (ℕ → Bool) → ℕ → ℕ → List ℕ
among f a n = filter f (range_with_len a n)

-- no number below the run is among them
has_above : (f : ℕ → Bool) (a n p : ℕ) → p < a → has (among f a n) p ≡ false
has_above f a zero p above = refl
has_above f a (suc n) p above =
    elim (f a) as (λ b. has (cond b (a ∷ among f (a + 1) n) (among f (a + 1) n)) p ≡ false) [
      | true ↦ rw (ne_eqb a p (λ e. omega arith)) (has_above f (a + 1) n p (omega arith))
      | false ↦ has_above f (a + 1) n p (omega arith)
    ]

has_first : (f : ℕ → Bool) (a n : ℕ) → has (among f a (suc n)) a ≡ f a
has_first f a n =
    elim (f a) as (λ b. has (cond b (a ∷ among f (a + 1) n) (among f (a + 1) n)) a ≡ b) [
      | true ↦ rw (eq-eqb a a refl) refl
      | false ↦ has_above f (a + 1) n a (omega arith)
    ]

has_within : (f : ℕ → Bool) (a n p : ℕ) → a ≤ p → p < a + n → has (among f a n) p ≡ f p
has_within f a zero p from below = absurd (omega arith)
has_within f a (suc n) p from below =
    elim (cases_eq a p) [
      | inl e ↦ let P : ℕ → Type 0 = λ q. has (among f a (suc n)) q ≡ f q in subst P e (has_first f a n)
      | inr ne ↦
          let more : has (among f (a + 1) n) p ≡ f p = has_within f (a + 1) n p (omega arith) (omega arith) in
          elim (f a) as (λ b. has (cond b (a ∷ among f (a + 1) n) (among f (a + 1) n)) p ≡ f p) [
            | true ↦ rw (ne_eqb a p ne) more
            | false ↦ more
          ]
    ]

-- one below the run goes in front
put_above : (f : ℕ → Bool) (a n p : ℕ) → p < a → put_once p (among f a n) ≡ p ∷ among f a n
put_above f a zero p above = refl
put_above f a (suc n) p above =
    elim (f a) as (λ b. put_once p (cond b (a ∷ among f (a + 1) n) (among f (a + 1) n))
    ≡ p ∷ cond b (a ∷ among f (a + 1) n) (among f (a + 1) n)) [
      | true ↦ rw (le-ltb a p (omega arith), ne_eqb a p (λ e. omega arith)) refl
      | false ↦ put_above f (a + 1) n p (omega arith)
    ]

-- past p both tests pass the same
same_above : (f g : ℕ → Bool) (p : ℕ) → ((q : ℕ) → q ≢ p → g q ≡ f q) → (a n : ℕ) → p < a → among g a n ≡ among f a n
same_above f g p others a zero above = refl
same_above f g p others a (suc n) above = rw (others a (λ e. omega arith), same_above f g p others (a + 1) n (omega arith)) refl

-- g passes p and what f passes
module _ (f g : ℕ → Bool) (p : ℕ) (others : (q : ℕ) → q ≢ p → g q ≡ f q) (new : g p ≡ true) where
  put_first : (a n : ℕ) → a ≡ p → put_once p (among f a (suc n)) ≡ among g a (suc n)
  put_first a n e =
      rw (ap g e ∙ new, same_above f g p others (a + 1) n (omega arith))
      (elim (f a) as (λ b. put_once p (cond b (a ∷ among f (a + 1) n) (among f (a + 1) n)) ≡ a ∷ among f (a + 1) n) [
        | true ↦ rw (le-ltb a p (omega arith), eq-eqb a p e) refl
        | false ↦ put_above f (a + 1) n p (omega arith) ∙ ap (λ x. x ∷ among f (a + 1) n) (sym e)
      ])

  put_within : (a n : ℕ) → a ≤ p → p < a + n → put_once p (among f a n) ≡ among g a n
  put_within a zero from below = absurd (omega arith)
  put_within a (suc n) from below =
      elim (cases_eq a p) [
        | inl e ↦ put_first a n e
        | inr ne ↦
            let more : put_once p (among f (a + 1) n) ≡ among g (a + 1) n = put_within (a + 1) n (omega arith) (omega arith) in
            rw (others a ne)
            (elim (f a) as (λ b. put_once p (cond b (a ∷ among f (a + 1) n) (among f (a + 1) n))
            ≡ cond b (a ∷ among g (a + 1) n) (among g (a + 1) n)) [
              | true ↦ rw (lt-ltb a p (omega arith)) (ap (λ xs. a ∷ xs) more)
              | false ↦ more
            ])
      ]

-- g passes what f passes but t, the first
module _ (f g : ℕ → Bool) (t : ℕ) (others : (q : ℕ) → q ≢ t → g q ≡ f q) (passes : f t ≡ true) (taken : g t ≡ false)
    (none : (q : ℕ) → q < t → f q ≡ false) where
  take_first : (a n : ℕ) → a ≤ t → t < a + n → among f a n ≡ t ∷ among g a n
  take_first a zero from below = absurd (omega arith)
  take_first a (suc n) from below =
      elim (cases_eq a t) [
        | inl e ↦ rw (ap f e ∙ passes, ap g e ∙ taken, same_above f g t others (a + 1) n (omega arith)) (ap (λ x. x ∷ among f (a + 1) n) e)
        | inr ne ↦
            let first : f a ≡ false = none a (omega arith) in
            rw (others a ne, first) (take_first (a + 1) n (omega arith) (omega arith))
      ]

-- ---- the members of a mask
pub members_none : members 0 ≡ []
unfolding members all_numbers
members_none = refl

-- a process is a member where its bit is 1
pub has_member : (m p : ℕ) → p < 64 → has (members m) p ≡ (bit_at m p == 1)
unfolding members all_numbers
has_member m p below = has_within (λ q. bit_at m q == 1) 0 all_numbers p (omega arith) (omega arith)

-- setting a bit puts the process in
pub put_member : (m p : ℕ) → p < 64 → members (bit_or m (1 * 2 ^ p % 2 ^ 64)) ≡ put_once p (members m)
unfolding members all_numbers
put_member m p below =
    sym (put_within (λ q. bit_at m q == 1) (λ q. bit_at (bit_or m (1 * 2 ^ p % 2 ^ 64)) q == 1) p
    (λ q ne. rw (bit_at_set_other w64 m p below q ne) refl)
    (rw (bit_at_set_same w64 m p below) refl)
    0 all_numbers (omega arith) (omega arith))

-- masks are equal where their members are
pub same_members : (m n : ℕ) → m < 2 ^ 64 → n < 2 ^ 64 → (m == n) ≡ pointwise nat_eq (members m) (members n)
same_members m n m-fits n-fits =
    elim (cases_eq m n) [
      | inl e ↦
          let P : ℕ → Type 0 = λ k. true ≡ pointwise nat_eq (members m) (members k) in
          rw (eq-eqb m n e) (subst P e (sym (matches_itself (members m))))
      | inr ne ↦
          rw (ne_eqb m n ne)
          (sym (false_from_ne_true (pointwise nat_eq (members m) (members n))
          (λ same. ne (sym (mask_of-members m m-fits) ∙ ap mask_of
          ((bytes_eq-Decides (members m) (members n)).0 same) ∙ mask_of-members n n-fits))))
    ]

-- the mask without its lowest bit
abbrev rest_of : ℕ → ℕ
rest_of m = bit_and m (bit_not w64 (1 * 2 ^ trailing_zeros w64 m % 2 ^ 64))

-- its other bits stay
bit_of_rest : (m q : ℕ) → 0 < m → m < 2 ^ 64 → q ≢ trailing_zeros w64 m → bit_at (rest_of m) q ≡ bit_at m q
bit_of_rest m q some fits ne =
    let low : (trailing_zeros w64 m < 64) × (bit_at m (trailing_zeros w64 m) ≡ 1)
    × ((i : ℕ) → i < trailing_zeros w64 m → bit_at m i ≡ 0) = bit_at-trailing_zeros w64 m some fits in
    elim (cases_lt q 64) [
      | inl below ↦ bit_at_clear_other w64 m (trailing_zeros w64 m) low.0 q below ne
      | inr above ↦
          let small : rest_of m < 2 ^ 64 = omega (arith, and_le_l m (bit_not w64 (1 * 2 ^ trailing_zeros w64 m % 2 ^ 64))) in
          rw (bit_at_above m 64 q fits above) (bit_at_above (rest_of m) 64 q small above)
    ]

-- the lowest bit is the first member, and the others are the rest
pub take_member : (m : ℕ) → 0 < m → m < 2 ^ 64 → members m ≡ trailing_zeros w64 m ∷ members (rest_of m)
unfolding members all_numbers
take_member m some fits =
    let low : (trailing_zeros w64 m < 64) × (bit_at m (trailing_zeros w64 m) ≡ 1)
    × ((i : ℕ) → i < trailing_zeros w64 m → bit_at m i ≡ 0) = bit_at-trailing_zeros w64 m some fits in
    take_first (λ q. bit_at m q == 1) (λ q. bit_at (rest_of m) q == 1) (trailing_zeros w64 m)
    (λ q ne. rw (bit_of_rest m q some fits ne) refl)
    (rw low.1 refl)
    (rw (bit_at_clear_same w64 m (trailing_zeros w64 m) low.0) refl)
    (λ q below. rw (low.2 q below) refl)
    0 all_numbers (omega arith) (omega arith)

-- the number that `Pid::new` took
pub first_taken : (r : Option ℕ) (n : ℕ) (old new : List ℕ) → IfSome r (λ p. p ≡ n) → (IsSome r ↔ (n < 64)) → n < 64 → old ≡ n ∷ new
    → MatchOption r ((old ≡ []) × (new ≡ [])) (λ p. old ≡ p ∷ new)
first_taken None n old new value exactly below e = absurd (false≢true (exactly.1 below))
first_taken (Some p) n old new value exactly below e = e ∙ ap (λ q. q ∷ new) (sym value)

-- ---- rising lists
-- one above all goes behind them
pub put_last : (p : ℕ) (qs : List ℕ) → All (λ q. q < p) qs → put_once p qs ≡ qs ++ p ∷ []
put_last p [] below = refl
put_last p (q ∷ qs) below =
    rw (lt-ltb q p (below 0 0 (omega arith)), put_last p qs (All-tail (λ x. x < p) q qs below)) refl
