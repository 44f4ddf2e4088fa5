-- The least cut, member by member.
use Rattle.std.proofs.Common.{◌≡◌, ◌⊎◌, inl, inr, ℕ, zero, suc, length, ◌+◌, ◌-◌, ◌<◌, ◌≤◌, Option, Some, None, Bool, true, false, refl, sym, ap, ◌∙◌, subst, arith, slice_get, count_by}
use Rattle.std.specs.Prelude.{◌&&◌, ◌||◌, ◌==◌, nat_le, is_some, if◌then◌else◌}
use Rattle.std.specs.List.{list_any}
use Rattle.std.proofs.lemmas.Bool.{both_ways, cases_lt, ltb-true, ltb-false}
use Rattle.byte_defs.specs.Choices.{is_some_and}
use Rattle.group_defs.specs.Process.{Pool}
use Rattle.group_defs.specs.Certified.{place_at}
use Rattle.group_defs.specs.Values.{is_quorum}
use Rattle.pool_laws.proofs.Places.{get-some}
use Rattle.pool_laws.proofs.Tests.{some-is, some-same}
use Rattle.rule_laws.specs.Ending.{end_of, may_cut, IsLeastCut}
use Rattle.rule_laws.proofs.Ends.{ends_by_member}
use Rattle.ending_rules.specs.Due.{is_below}

-- the Ends counted by members
may-cut-by : (h : Pool) (k : ℕ)
    → (is_quorum h (count_by (λ m. is_some_and (end_of h m) (λ e. nat_le e k)) h.view.members)
    && list_any (λ m. is_some_and (end_of h m) (λ e. e == k)) h.view.members && ((k == 0) || is_some (place_at h (k - 1)))) ≡ may_cut h k
may-cut-by h k = sym (λ i. is_quorum h ((ends_by_member h (λ e. nat_le e k)).0 i) && (ends_by_member h (λ e. e == k)).1 i
    && ((k == 0) || is_some (place_at h (k - 1))))

-- by the answers to these three questions
pub cut-is : (h : Pool) (k : ℕ) (q t b : Bool) → q ≡ is_quorum h (count_by (λ m. is_some_and (end_of h m) (λ e. nat_le e k)) h.view.members)
    → t ≡ list_any (λ m. is_some_and (end_of h m) (λ e. e == k)) h.view.members
    → b ≡ ((k == 0) || is_some (place_at h (k - 1))) → (q && t && b) ≡ may_cut h k
cut-is h k q t b quorum said placed = (λ i. quorum i && said i && placed i) ∙ may-cut-by h k

-- a rank below r + 1 is below r, or is r
at-last : (q r : ℕ) → q < r + 1 → (q < r) ⊎ (q ≡ r)
at-last q r lt = go (cases_lt q r)
  where
    go : (q < r) ⊎ (r ≤ q) → (q < r) ⊎ (q ≡ r)
    go (inl below) = inl below
    go (inr le) = inr (omega (arith, lt, le))

module _ (h : Pool) (r m : ℕ) (at : slice_get h.view.members r ≡ Some m) where
  -- nothing new: what this member says may not end the view, or is not below
  stays : (found : Option ℕ) → IsLeastCut h r found
      → ((k : ℕ) → end_of h m ≡ Some k → may_cut h k ≡ true → (c : ℕ) × (found ≡ Some c) × (c ≤ k)) → IsLeastCut h (r + 1) found
  stays None least not = λ q n k lt stands says. go q n k (at-last q r lt) stands says (may_cut h k) refl
    where
      go : (q n k : ℕ) → (q < r) ⊎ (q ≡ r) → slice_get h.view.members q ≡ Some n → end_of h n ≡ Some k → (b : Bool) → may_cut h k ≡ b
          → b ≡ false
      go q n k e stands says false may = refl
      go q n k (inl lt) stands says true may = absurd (both_ways _ (least q n k lt stands says) may)
      go q n k (inr is) stands says true may =
          let same : n ≡ m = some-is n m (slice_get h.view.members r) (ap (slice_get h.view.members) (sym is) ∙ stands) at in
          let c = not k (ap (end_of h) (sym same) ∙ says) may in
          absurd (let clash : None ≡ Some c.0 = c.1 in cc)
  stays (Some cut) least not = (
    (let w = least.0 in (w.0, w.1, let lt = w.2 in omega (arith, lt), w.3, w.4)),
    least.1,
    λ q n k lt stands says may. go q n k (at-last q r lt) stands says may,
  )
    where
      go : (q n k : ℕ) → (q < r) ⊎ (q ≡ r) → slice_get h.view.members q ≡ Some n → end_of h n ≡ Some k → may_cut h k ≡ true → cut ≤ k
      go q n k (inl lt) stands says may = least.2 q n k lt stands says may
      go q n k (inr is) stands says may =
          let same : n ≡ m = some-is n m (slice_get h.view.members r) (ap (slice_get h.view.members) (sym is) ∙ stands) at in
          let c = not k (ap (end_of h) (sym same) ∙ says) may in
          let c_is : cut ≡ c.0 = some-same cut c.0 c.1 in
          let le = c.2 in
          omega (arith, c_is, le)

  -- the member's cut is the least now
  takes : (found : Option ℕ) → IsLeastCut h r found → (k : ℕ) → end_of h m ≡ Some k → may_cut h k ≡ true → is_below k found ≡ true
      → IsLeastCut h (r + 1) (Some k)
  takes found least k says may below = (
    (r, m, (let lt : r < r + 1 = omega arith in lt), at, says),
    may,
    λ q n j lt stands said may'. go found least below q n j (at-last q r lt) stands said may',
  )
    where
      go : (found : Option ℕ) → IsLeastCut h r found → is_below k found ≡ true → (q n j : ℕ) → (q < r) ⊎ (q ≡ r)
          → slice_get h.view.members q ≡ Some n → end_of h n ≡ Some j → may_cut h j ≡ true → k ≤ j
      go found least below q n j (inr is) stands said may' =
          let same : n ≡ m = some-is n m (slice_get h.view.members r) (ap (slice_get h.view.members) (sym is) ∙ stands) at in
          let k_is : k ≡ j = some-is k j (end_of h m) says (ap (end_of h) (sym same) ∙ said) in
          omega (arith, k_is)
      go None least below q n j (inl lt) stands said may' = absurd (both_ways _ (least q n j lt stands said) may')
      go (Some c) least below q n j (inl lt) stands said may' =
          let far = least.2 q n j lt stands said may' in
          let near : k < c = ltb-true k c below in
          omega (arith, far, near)

  pub cut-none : (found : Option ℕ) → end_of h m ≡ None → IsLeastCut h r found → IsLeastCut h (r + 1) found
  cut-none found says least = stays found least (λ k said _. absurd (let clash : None ≡ Some k = sym says ∙ said in cc))

  pub cut-some : (found : Option ℕ) (k : ℕ) → end_of h m ≡ Some k → IsLeastCut h r found
      → IsLeastCut h (r + 1) (if is_below k found && may_cut h k then Some k else found)
  cut-some found k says least = go (is_below k found) refl (may_cut h k) refl
    where
      not-below : (found : Option ℕ) → is_below k found ≡ false → (c : ℕ) × (found ≡ Some c) × (c ≤ k)
      not-below None e = absurd cc
      not-below (Some c) e = (c, refl, ltb-false k c e)

      go : (a : Bool) → is_below k found ≡ a → (b : Bool) → may_cut h k ≡ b → IsLeastCut h (r + 1) (if a && b then Some k else found)
      go true below true may = takes found least k says may below
      go true below false may = stays found least
          (λ j said may'. absurd (let same : k ≡ j = some-is k j (end_of h m) says said in let no' : may_cut h j
          ≡ false = ap (may_cut h) (sym same) ∙ may in both_ways _ no' may'))
      go false below b may = stays found least
          (λ j said may'. let same : k ≡ j = some-is k j
          (end_of h m) says said in let c = not-below found below in (c.0, c.1, let le = c.2 in omega (arith, same, le)))

-- there is a least cut
pub some-cut : (h : Pool) (r : ℕ) → r ≤ length h.view.members → (o : Option ℕ) × IsLeastCut h r o
some-cut h zero le = (None, λ q m k lt at says. absurd (omega (arith, lt)))
some-cut h (suc r) le =
    let at = get-some h.view.members r (omega (arith, le)) in
    let before = some-cut h r (omega (arith, le)) in
    let next : r + 1 ≡ suc r = omega arith in
    go at.0 at.1 before.0 before.1 next (end_of h at.0) refl
  where
    go : (m : ℕ) → slice_get h.view.members r ≡ Some m → (found : Option ℕ) → IsLeastCut h r found → r + 1 ≡ suc r → (said : Option ℕ)
        → end_of h m ≡ said → (o : Option ℕ) × IsLeastCut h (suc r) o
    go m at found least next None says = (found, subst (λ n. IsLeastCut h n found) next (cut-none h r m at found says least))
    go m at found least next (Some k) says = let o : Option ℕ = if is_below k found && may_cut h k then Some k
        else found in (o, subst (λ n. IsLeastCut h n o) next (cut-some h r m at found k says least))
