-- The least Keep that is due.
use Rattle.std.proofs.Common.{◌≡◌, ◌⊎◌, inl, inr, ℕ, zero, suc, ◌+◌, ◌<◌, ◌≤◌, List, [], ◌∷◌, length, Option, Some, None, Bool, true, false, refl, sym, ap, ◌∙◌, arith, slice_get}
use Rattle.std.specs.Prelude.{option_and_then, option_map, if◌then◌else◌, not, ◌&&◌, is_some}
use Rattle.std.proofs.lemmas.Bool.{cases_lt, not-true}
use Rattle.group_defs.specs.Below.{is_some_and, Statement, Batch, Batch-discrete, Keep, KeepAt}
use Rattle.group_defs.specs.Views.{is_member}
use Rattle.group_defs.specs.Process.{Keeps, Setting, Pool, Process}
use Rattle.group_defs.specs.Certified.{place_at, placed_from, placed, is_signed, is_ended}
use Rattle.group_defs.specs.Due.{may_sign, kind_of, same_batch}
use Rattle.pool_laws.specs.Least.{IsLeastBelow}
use Rattle.rule_laws.specs.Least.{may_at, IsNumbered}
use Rattle.rule_laws.proofs.Numbers.{same-test}
use Rattle.rule_laws.specs.Placing.{is_keep_open, KeepIsLeast}
use Rattle.rule_laws.proofs.Signable.{may-parts, may-now, made, may-made, numbered-made, first-open}
use Rattle.pool_laws.proofs.Tests.{and-first, and-second, both-true, is-yes, some-and, yes-is}
use Rattle.pool_laws.proofs.Places.{slice_get-length, get-some}

-- at most so many places are placed
few-from : (h : Pool) (more k : ℕ) → length (placed_from h more k) ≤ more
few-from h zero k = omega arith
few-from h (suc more) k = go (place_at h k) (few-from h more (k + 1))
  where
    go : (o : Option Batch) → length (placed_from h more (k + 1)) ≤ more
        → (let it : List Batch = elim o [ None ↦ [] | Some b ↦ b ∷ placed_from h more (k + 1) ] in length it ≤ suc more)
    go None le = omega arith
    go (Some b) le = omega (arith, le)

pub placed-few : (h : Pool) → length (placed h) ≤ 1024
unfolding placed
placed-few h = few-from h 1024 0

module _ (s : Setting) (p : Process) where
  abbrev x : ℕ
  x = p.pool.view.number

  abbrev pub batch : ℕ → Option Batch
  batch k = slice_get (placed p.pool) k

  abbrev pub keep : ℕ → Batch → Statement
  keep k b = Keep x k b

  keep-parts : (st : Statement) → may_sign s p st ≡ true → kind_of st ≡ Keeps
      → (k : ℕ) × (b : Batch) × (k < 1024) × (batch k ≡ Some b) × (keep k b ≡ st)
  keep-parts (Keep y k b) may is =
      let it = may-parts s p (Keep y k b) may in
      let at = some-and (batch k) (same_batch b) (and-first _ _ it.due) in
      let same : b ≡ at.0 = yes-is (Batch-discrete b at.0) at.2 in
      let far = slice_get-length (placed p.pool) k at.0 at.1 in
      let few = placed-few p.pool in
      (k, b, omega (arith, far, few), at.1 ∙ ap Some (sym same), λ i. Keep (sym it.current i) k b)
  keep-parts _ may is = absurd cc

  keep-now : (k : ℕ) (b : Batch) → is_member p.pool.view p.me ≡ true → is_ended p ≡ false → is_signed p (KeepAt x k) ≡ false
      → batch k ≡ Some b → may_sign s p (keep k b) ≡ true
  keep-now k b member open_ unsigned at = may-now s p (keep k b) (record {
    member = member;
    current = refl;
    unsigned = unsigned;
    due = both-true _ _ (ap (λ o. is_some_and o (same_batch b)) at ∙ is-yes (Batch-discrete b b) refl) (ap not open_);
  })

  unsigned-keep : (k : ℕ) → is_some_and (batch k) (λ b. may_sign s p (keep k b)) ≡ true → is_keep_open p k ≡ true
  unsigned-keep k may = let b = some-and (batch k) (λ b. may_sign s p (keep k b)) may in ap not ((may-parts s p (keep k b.0) b.2).unsigned)

  beyond : (k : ℕ) (o : Option Batch) → batch k ≡ o → is_some o ≡ false → length (placed p.pool) ≤ k
  beyond k None e not = elim (far k) [
    | inl lt ↦ absurd
        (let some = get-some (placed p.pool) k lt in let clash : None ≡ Some some.0 = sym e ∙ some.1 in cc)
    | inr le ↦ le
  ]
    where
      far : (k : ℕ) → (k < length (placed p.pool)) ⊎ (length (placed p.pool) ≤ k)
      far k = cases_lt k (length (placed p.pool))
  beyond k (Some b) e not = absurd cc

  pub keeps-numbered : IsNumbered s p Keeps (made keep batch) 1024
  keeps-numbered = numbered-made keep batch s p Keeps 5 1024 (λ k b. refl) (λ k b. refl) keep-parts

  module _ (member : is_member p.pool.view p.me ≡ true) (open_ : is_ended p ≡ false) where
    -- a Keep may be signed exactly where its place is placed and it is not signed
    may-keep : (k : ℕ) → may_at s p (made keep batch) k ≡ (is_keep_open p k && is_some (batch k))
    may-keep k = may-made keep batch s p k ∙ same-test _ _
        (λ may. both-true _ _ (unsigned-keep k may) (let b = some-and (batch k) (λ b. may_sign s p (keep k b)) may in ap is_some b.1))
        (go (batch k) refl)
      where
        go : (o : Option Batch) → batch k ≡ o → (is_keep_open p k && is_some o) ≡ true → is_some_and o (λ b. may_sign s p (keep k b)) ≡ true
        go None e f = absurd (let no' = and-second (is_keep_open p k) false f in cc)
        go (Some b) e f = keep-now k b member open_ (not-true _ (and-first (is_keep_open p k) true f)) e

    opens : (k : ℕ) → k < 1024 → may_at s p (made keep batch) k ≡ true → is_keep_open p k ≡ true
    opens k lt may = and-first (is_keep_open p k) (is_some (batch k)) (sym (may-keep k) ∙ may)

    ends : (j k : ℕ) → j ≤ k → k < 1024 → is_keep_open p j ≡ true → may_at s p (made keep batch) j ≡ false
        → may_at s p (made keep batch) k ≡ false
    ends j k le lt is_open not =
        let unplaced : is_some (batch j) ≡ false = second-false (is_keep_open p j) (is_some (batch j)) is_open (sym (may-keep j) ∙ not) in
        let far = beyond j (batch j) refl unplaced in
        may-keep k ∙ ap (λ b. is_keep_open p k && b) (unplaced-at k (omega (arith, far, le)) (batch k) refl) ∙ and-false (is_keep_open p k)
      where
        second-false : (a b : Bool) → a ≡ true → (a && b) ≡ false → b ≡ false
        second-false true b e f = f
        second-false false b e f = absurd cc

        and-false : (a : Bool) → (a && false) ≡ false
        and-false true = refl
        and-false false = refl

        unplaced-at : (k : ℕ) → length (placed p.pool) ≤ k → (o : Option Batch) → batch k ≡ o → is_some o ≡ false
        unplaced-at k far None e = refl
        unplaced-at k far (Some b) e = absurd (let lt = slice_get-length (placed p.pool) k b e in omega (arith, lt, far))

    first : (o : Option ℕ) → IsLeastBelow 1024 (is_keep_open p) o → (k : ℕ) → is_keep_open p k ≡ true
        → (if may_at s p (made keep batch) k then made keep batch k else None) ≡ made keep batch k
    first o least k is_open = go (batch k) refl
      where
        go : (b : Option Batch) → batch k ≡ b
            → (if may_at s p (made keep batch) k then option_map (keep k) b else None) ≡ option_map (keep k) b
        go None e = pick (may_at s p (made keep batch) k)
          where
            pick : (b : Bool) → (let it : Option Statement = if b then None else None in it ≡ None)
            pick true = refl
            pick false = refl
        go (Some b) e = ap (λ t. if t then Some (keep k b) else None)
            (may-keep k ∙ ap (λ o. is_keep_open p k && is_some o) e ∙ both-true _ true is_open refl)

pub keep_is_least : KeepIsLeast
keep_is_least s p o member open_ least = first-open s p Keeps _ 1024 (is_keep_open p) o (keeps-numbered s p) (opens s p member open_)
    (ends s p member open_) least ∙ go o least
  where
    go : (o : Option ℕ) → IsLeastBelow 1024 (is_keep_open p) o
        → option_and_then (λ k. if may_at s p (made (keep s p) (batch s p)) k then made (keep s p) (batch s p) k else None) o
        ≡ option_and_then (made (keep s p) (batch s p)) o
    go None least = refl
    go (Some k) least = first s p member open_ (Some k) least k least.2
