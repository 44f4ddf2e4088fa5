-- Which number is the least that passes a test.
use Rattle.std.proofs.Common.{◌≡◌, ◌⊎◌, inl, inr, ℕ, ◌<◌, ◌≤◌, Option, Some, None, Bool, true, false, refl, sym, ap, ◌∙◌, arith}
use Rattle.std.proofs.lemmas.Bool.{both_ways}
use Rattle.group_defs.specs.Below.{is_some_and, numbers_below, Statement}
use Rattle.group_defs.specs.Due.{may_sign, due_numbers, kind_of, least_due}
use Rattle.pool_laws.specs.Least.{IsLeastFrom}
use Rattle.rule_laws.specs.Least.{LeastNumber}
use Rattle.rule_laws.proofs.Least.{none_of_all, least_of_all}
use Rattle.pool_laws.proofs.Places.{Compared, ahead, behind, level, compared}
use Rattle.pool_laws.proofs.Tests.{some-and}

-- tests that are true of the same are one
pub same-test : (a b : Bool) → (a ≡ true → b ≡ true) → (b ≡ true → a ≡ true) → a ≡ b
same-test true b h k = sym (h refl)
same-test false true h k = k refl
same-test false false h k = refl

-- the least by one test is the least by another that says the same
pub least-same : (a n : ℕ) (t u : ℕ → Bool) (o : Option ℕ) → ((k : ℕ) → a ≤ k → k < n → t k ≡ u k) → IsLeastFrom a n t o
    → IsLeastFrom a n u o
least-same a n t u None same least = λ k le lt. sym (same k le lt) ∙ least k le lt
least-same a n t u (Some k) same least =
    let le = least.0 in let lt = least.1 in
    (le, lt, sym (same k le lt) ∙ least.2, λ j from below. sym (same j from (omega (arith, lt, below))) ∙ least.3 j from below)

and-some : {A : Type 0} (o : Option A) (a : A) (test : A → Bool) → o ≡ Some a → is_some_and o test ≡ test a
and-some o a test e = ap (λ o. is_some_and o test) e

pub least_number : LeastNumber
least_number s p kind at n None numbered least = none_of_all s p kind (λ st k. never st k (may_sign s p st) refl)
  where
    never : (st : Statement) → kind_of st ≡ kind → (b : Bool) → may_sign s p st ≡ b → b ≡ false
    never st k false may = refl
    never st k true may = let found = numbered.whole st may k in absurd
        (both_ways _ (least found.0 (omega arith) found.1) (and-some (at found.0) st (may_sign s p) found.2 ∙ may))
least_number s p kind at n (Some k) numbered least =
    let it = some-and (at k) (may_sign s p) least.2 in
    let is = numbered.kinds k it.0 it.1 in
    ap (least_due s p) (sym is) ∙ least_of_all s p it.0 it.2 (λ other may same. each it.0 it.1 other may (same ∙ is)) ∙ sym it.1
  where
    each : (st : Statement) → at k ≡ Some st → (other : Statement) → may_sign s p other ≡ true → kind_of other ≡ kind
        → (other ≡ st) ⊎ (numbers_below (due_numbers p.pool.view st) (due_numbers p.pool.view other) ≡ true)
    each st e other may is = let found = numbered.whole other may is in go found.0 found.2 (compared k found.0)
      where
        go : (j : ℕ) → at j ≡ Some other → Compared k j
            → (other ≡ st) ⊎ (numbers_below (due_numbers p.pool.view st) (due_numbers p.pool.view other) ≡ true)
        go j at_j (ahead lt) = inr (numbered.rising k j lt st other e at_j)
        go j at_j (level same) = inl (let both : Some other ≡ Some st = sym at_j ∙ ap at (sym same) ∙ e in cc)
        go j at_j (behind lt) = absurd (both_ways _ (least.3 j (omega arith) lt) (and-some (at j) other (may_sign s p) at_j ∙ may))
