-- What may be signed, and kinds whose statements are numbered.
use Rattle.std.proofs.Common.{◌≡◌, inl, inr, ℕ, ◌<◌, ◌≤◌, [], ◌∷◌, Option, Some, None, Bool, true, false, refl, sym, ap, ◌∙◌, subst, arith}
use Rattle.std.specs.Prelude.{option_and_then, option_map, if◌then◌else◌, not, ◌&&◌, ◌||◌, ◌==◌, nat_lt}
use Rattle.std.proofs.lemmas.Bool.{both_ways, eq-eqb, eqb-true, lt-ltb, le-ltb, cases_lt, not-true}
use Rattle.group_defs.specs.Below.{is_some_and, numbers_below, Statement, slot_of, view_of}
use Rattle.group_defs.specs.Views.{is_member}
use Rattle.group_defs.specs.Process.{Kind, Setting, Process}
use Rattle.group_defs.specs.Certified.{is_signed}
use Rattle.group_defs.specs.Due.{may_sign, is_due, due_numbers, kind_of, least_due}
use Rattle.pool_laws.specs.Least.{IsLeastBelow}
use Rattle.rule_laws.specs.Least.{IsNumbered, may_at}
use Rattle.rule_laws.proofs.Numbers.{least_number}
use Rattle.pool_laws.proofs.Tests.{and-first, and-second, both-true, map-some}

-- ---- the four parts of the test

pub record Signable (s : Setting) (p : Process) (st : Statement) : Type 0 where
  pub member : is_member p.pool.view p.me ≡ true
  pub current : view_of st ≡ p.pool.view.number
  pub unsigned : is_signed p (slot_of st) ≡ false
  pub due : is_due s p st ≡ true

pub may-parts : (s : Setting) (p : Process) (st : Statement) → may_sign s p st ≡ true → Signable s p st
may-parts s p st may = record {
  member = and-first _ _ (and-first _ _ (and-first _ _ may));
  current = eqb-true _ _ (and-second _ _ (and-first _ _ (and-first _ _ may)));
  unsigned = not-true _ (and-second _ _ (and-first _ _ may));
  due = and-second _ _ may;
}

pub may-now : (s : Setting) (p : Process) (st : Statement) → Signable s p st → may_sign s p st ≡ true
may-now s p st it = both-true _ _ (both-true _ _ (both-true _ _ it.member (eq-eqb _ _ it.current)) (ap not it.unsigned)) it.due

-- ---- a statement of each number

pub third-below : (a x i j : ℕ) → i < j → numbers_below (a ∷ x ∷ i ∷ []) (a ∷ x ∷ j ∷ []) ≡ true
third-below a x i j lt = go (nat_lt a a) (le-ltb a a (omega arith)) (a == a) (eq-eqb a a refl) (nat_lt x x) (le-ltb x x (omega arith))
    (x == x) (eq-eqb x x refl) (nat_lt i j) (lt-ltb i j lt)
  where
    go : (b : Bool) → b ≡ false → (c : Bool) → c ≡ true → (d : Bool) → d ≡ false → (e : Bool) → e ≡ true → (f : Bool) → f ≡ true
        → (b || (c && (d || (e && (f || ((i == j) && false)))))) ≡ true
    go b is c is' d is'' e is''' f is'''' = cc

module _ {A : Type 0} (f : ℕ → A → Statement) (g : ℕ → Option A) where
  abbrev pub made : ℕ → Option Statement
  made k = option_map (f k) (g k)

  pub may-made : (s : Setting) (p : Process) (k : ℕ) → may_at s p made k ≡ is_some_and (g k) (λ a. may_sign s p (f k a))
  may-made s p k = go (g k)
    where
      go : (o : Option A) → is_some_and (option_map (f k) o) (may_sign s p) ≡ is_some_and o (λ a. may_sign s p (f k a))
      go None = refl
      go (Some a) = refl

  pub numbered-made : (s : Setting) (p : Process) (kind : Kind) (number n : ℕ) → ((k : ℕ) (a : A) → kind_of (f k a) ≡ kind)
      → ((k : ℕ) (a : A) → due_numbers p.pool.view (f k a) ≡ number ∷ p.pool.view.number ∷ k ∷ [])
      → ((st : Statement) → may_sign s p st ≡ true → kind_of st ≡ kind → (k : ℕ) × (a : A) × (k < n) × (g k ≡ Some a) × (f k a ≡ st))
      → IsNumbered s p kind made n
  numbered-made s p kind number n kinds numbers whole = record {
    kinds = λ k st e. let a = map-some (f k) (g k) st e in ap kind_of (sym a.2) ∙ kinds k a.0;
    rising = λ i j lt a b at at'.
        let one = map-some (f i) (g i) a at in
        let two = map-some (f j) (g j) b at' in
        subst (λ ns. numbers_below ns (due_numbers p.pool.view b) ≡ true) (sym (numbers i one.0) ∙ ap (due_numbers p.pool.view) one.2)
        (subst (λ ns. numbers_below (number ∷ p.pool.view.number ∷ i ∷ []) ns ≡ true)
        (sym (numbers j two.0) ∙ ap (due_numbers p.pool.view) two.2) (third-below number p.pool.view.number i j lt));
    whole = λ st may is. let it = whole st may is in (it.0, it.2, ap (option_map (f it.0)) it.3 ∙ ap Some it.4);
  }

-- ---- kinds whose statements are signed in order of their numbers

-- Where each statement that may be signed is open, and behind an open one that may not be signed none may be, the first that is open is the
-- least that is due, or none is due.
pub first-open : (s : Setting) (p : Process) (kind : Kind) (at : ℕ → Option Statement) (n : ℕ) (open_ : ℕ → Bool) (o : Option ℕ)
    → IsNumbered s p kind at n
    → ((k : ℕ) → k < n → may_at s p at k ≡ true → open_ k ≡ true)
    → ((j k : ℕ) → j ≤ k → k < n → open_ j ≡ true → may_at s p at j ≡ false → may_at s p at k ≡ false)
    → IsLeastBelow n open_ o → least_due s p kind ≡ option_and_then (λ k. if may_at s p at k then at k else None) o
first-open s p kind at n open_ None numbered opens ends least = least_number s p kind at n None numbered
    (λ k le lt. closed k lt (may_at s p at k) refl (least k le lt))
  where
    closed : (k : ℕ) → k < n → (b : Bool) → may_at s p at k ≡ b → open_ k ≡ false → b ≡ false
    closed k lt true may not = absurd (both_ways _ not (opens k lt may))
    closed k lt false may not = refl
first-open s p kind at n open_ (Some k) numbered opens ends least = go (may_at s p at k) refl
  where
    closed : (j : ℕ) → j < k → (b : Bool) → may_at s p at j ≡ b → b ≡ false
    closed j lt true may = absurd (both_ways _ (least.3 j (omega arith) lt) (opens j (let far = least.1 in omega (arith, lt, far)) may))
    closed j lt false may = refl

    none : may_at s p at k ≡ false → (j : ℕ) → 0 ≤ j → j < n → may_at s p at j ≡ false
    none not j le lt = elim (cases_lt j k) [
      | inl before ↦ closed j before
          (may_at s p at j) refl
      | inr behind ↦ ends k j behind lt least.2 not
    ]

    go : (b : Bool) → may_at s p at k ≡ b → least_due s p kind ≡ (if b then at k else None)
    go true may = least_number s p kind at n (Some k) numbered (least.0, least.1, may, λ j from lt. closed j lt (may_at s p at j) refl)
    go false not = least_number s p kind at n None numbered (none not)
