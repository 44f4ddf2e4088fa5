-- A walk by place over claims that are kept: what lies before the place, at it, and after it.
use Rattle.std.proofs.Common.{◌≡◌, inl, inr, ℕ, suc, ◌+◌, ◌<◌, ◌≤◌, List, [], ◌∷◌, ◌++◌, length, map, get_or, take, drop, Bool, true, false, refl, sym, ap, ◌∙◌, subst, drop-cons}
use Rattle.std.specs.Prelude.{◌&&◌, cond, filter}
use Rattle.std.specs.List.{AllByRecursion, list_any}
use Rattle.std.proofs.lemmas.List.{map-append, map_more, take-append-drop, take_all}
use Rattle.std.proofs.lemmas.List.Elements.{filter-append}
use Rattle.message_defs.specs.Statements.{Claim, slot_of}
use Rattle.group_defs.specs.Process.{Setting}
use Rattle.group_defs.specs.Hearing.{is_valid}
use Rattle.pool_laws.proofs.Members.{Mem, All-mem, each-snoc, list_any-mem, mem-All, mem-behind, mem-list_any, snoc-mem}
use Rattle.pool_laws.proofs.Slots.{same_slot-is}
use Rattle.conviction_laws.proofs.Pairs.{none-passes}
use Rattle.conviction_defs.specs.Convictions.{has_conflict, is_conflict, is_on_slot}
use Rattle.conviction.specs.Slots.{AreQuiet, valid_on}
use Rattle.conviction.proofs.Conflicts.{all-quiet, by-first, list_any-map, no-conflict, not-true, one-content, same-slot, slot-convicts}

-- ---- what holds of each

pub each-behind : {A : Type 0} (P : A → Type 0) (xs ys : List A) → AllByRecursion P (xs ++ ys) → AllByRecursion P ys
each-behind P [] ys all = all
each-behind P (x ∷ xs) ys all = each-behind P xs ys all.1

pub each-filter : {A : Type 0} (P : A → Type 0) (test : A → Bool) (xs : List A) → AllByRecursion P xs → AllByRecursion P (filter test xs)
each-filter P test [] all = tt
each-filter {A} P test (x ∷ xs) all = go (test x) (each-filter P test xs all.1)
  where
    go : (b : Bool) → AllByRecursion P (filter test xs) → AllByRecursion P (cond b (x ∷ filter test xs) (filter test xs))
    go true rest = (all.0, rest)
    go false rest = rest

-- ---- one place

module _ {A : Type 0} (f : A → Claim) (xs : List A) (i : ℕ) where
  pub parts : map f (take i xs) ++ map f (drop i xs) ≡ map f xs
  parts = sym (map-append f (take i xs) (drop i xs)) ∙ ap (map f) (take-append-drop i xs)

  pub rest-is : (P : Claim → Type 0) → AllByRecursion P (map f xs) → AllByRecursion P (map f (drop i xs))
  rest-is P all = each-behind P (map f (take i xs)) (map f (drop i xs)) (subst (AllByRecursion P) (sym parts) all)

  pub rest-mem : (c : Claim) → Mem c (map f (drop i xs)) → Mem c (map f xs)
  rest-mem c m = subst (Mem c) parts (mem-behind (map f (take i xs)) (map f (drop i xs)) c m)

  module _ (x : A) (lt : i < length xs) (is : x ≡ get_or xs i x) where
    starts : map f (drop i xs) ≡ f x ∷ map f (drop (suc i) xs)
    starts = ap (map f) (drop-cons xs i x lt) ∙ ap (λ y. f y ∷ map f (drop (suc i) xs)) (sym is)

    pub there : Mem (f x) (map f (drop i xs))
    there = subst (Mem (f x)) (sym starts) (inl refl)

    pub at-is : (P : Claim → Type 0) → AllByRecursion P (map f xs) → P (f x)
    at-is P all = (subst (AllByRecursion P) starts (rest-is P all)).0

    pub one-more : map f (take (i + 1) xs) ≡ map f (take i xs) ++ f x ∷ []
    one-more = map_more f xs i x lt ∙ ap (λ y. map f (take i xs) ++ f y ∷ []) (sym is)

    -- ---- a walk to a claim that contradicts

    pub none-more : (test : Claim → Bool) → list_any test (map f (take i xs)) ≡ false → test (f x) ≡ false
        → list_any test (map f (take (i + 1) xs)) ≡ false
    none-more test none nay = not-true (list_any test (map f (take (i + 1) xs))) (λ e.
        let b = list_any-mem test (map f (take (i + 1) xs)) e in
        elim (snoc-mem (map f (take i xs)) (f x) b.0 (subst (Mem b.0) one-more b.1)) [
          | inl m ↦ (let no' = none-passes test (map f (take i xs)) none b.0 m in let yes' = b.2 in cc)
          | inr is' ↦ (let yes' = subst (λ c. test c ≡ true) (sym is') b.2 in cc)
        ])

    pub some-here : (test : Claim → Bool) → test (f x) ≡ true → list_any test (map f xs) ≡ true
    some-here test yes' = mem-list_any test (map f xs) (f x) (rest-mem (f x) there) yes'

    module _ (s : Setting) where
      -- ---- a walk over the slots

      next-quiet : AreQuiet s (map f xs) (map f (take i xs)) → has_conflict (valid_on s (f x) (map f xs)) ≡ false
          → AreQuiet s (map f xs) (map f (take (i + 1) xs))
      next-quiet quiet e = subst (AreQuiet s (map f xs)) (sym one-more)
          (mem-All (λ c. has_conflict (valid_on s c (map f xs)) ≡ false) (map f (take i xs) ++ f x ∷ [])
          (each-snoc (λ c. has_conflict (valid_on s c (map f xs)) ≡ false) (map f (take i xs)) (f x)
          (λ c m. All-mem (λ c. has_conflict (valid_on s c (map f xs)) ≡ false) (map f (take i xs)) c quiet m) e))

      -- a claim before it is on the slot
      pub slot-seen : list_any (is_on_slot (f x)) (map f (take i xs)) ≡ true → AreQuiet s (map f xs) (map f (take i xs))
          → AreQuiet s (map f xs) (map f (take (i + 1) xs))
      slot-seen seen quiet =
          let b = list_any-mem (is_on_slot (f x)) (map f (take i xs)) seen in
          next-quiet quiet (same-slot s b.0 (f x) (map f xs) (same_slot-is (slot_of b.0.statement) (slot_of (f x).statement) b.2)
          (All-mem (λ c. has_conflict (valid_on s c (map f xs)) ≡ false) (map f (take i xs)) b.0 quiet b.1))

      -- no other content on the slot
      pub slot-agrees : list_any (is_on_slot (f x)) (map f (take i xs)) ≡ false → list_any (is_conflict (f x)) (map f (drop i xs)) ≡ false
          → AreQuiet s (map f xs) (map f (take i xs)) → AreQuiet s (map f xs) (map f (take (i + 1) xs))
      slot-agrees first same quiet = next-quiet quiet (subst (λ own. has_conflict (valid_on s (f x) own) ≡ false) parts
          (one-content s (f x) (map f (take i xs)) (map f (drop i xs)) first same))

      -- no two valid claims that conflict on the slot
      pub slot-acquits : list_any (is_on_slot (f x)) (map f (take i xs)) ≡ false
          → has_conflict (valid_on s (f x) (map f (drop i xs))) ≡ false
          → AreQuiet s (map f xs) (map f (take i xs)) → AreQuiet s (map f xs) (map f (take (i + 1) xs))
      slot-acquits first none quiet = next-quiet quiet (subst (λ own. has_conflict (valid_on s (f x) own) ≡ false) parts
          (no-conflict s (f x) (map f (take i xs)) (map f (drop i xs)) first none))

      pub convicts-on : has_conflict (valid_on s (f x) (map f (drop i xs))) ≡ true → has_conflict (filter (is_valid s) (map f xs)) ≡ true
      convicts-on e = slot-convicts s (f x) (map f (drop i xs)) (map f xs) rest-mem e

      -- ---- a walk to the first valid claim of a slot

      pub valid-found : (on : Claim) → valid_on s on (map f (take i xs)) ≡ [] → is_on_slot on (f x) ≡ true → is_valid s (f x) ≡ true
          → list_any (λ b. is_conflict (f x) b && is_valid s b) (map f (drop i xs)) ≡ has_conflict (valid_on s on (map f xs))
      valid-found on none slot valid =
          by-first s on (f x) (map f (take i xs)) (map f (drop i xs)) none there
          (same_slot-is (slot_of (f x).statement) (slot_of on.statement) slot) valid
          ∙ ap (λ own. has_conflict (valid_on s on own)) parts

      pub valid-later : (on : Claim) → valid_on s on (map f (take i xs)) ≡ [] → (is_on_slot on (f x) && is_valid s (f x)) ≡ false
          → valid_on s on (map f (take (i + 1) xs)) ≡ []
      valid-later on none nay =
          ap (valid_on s on) one-more
          ∙ filter-append (λ b. is_on_slot on b && is_valid s b) (map f (take i xs)) (f x ∷ [])
          ∙ ap (λ cs. cs ++ valid_on s on (f x ∷ [])) none
          ∙ ap (λ t. cond t (f x ∷ []) []) nay

-- ---- a walk at its start and at its end

pub none-yet : (s : Setting) {A : Type 0} (f : A → Claim) (xs : List A) → AreQuiet s (map f xs) (map f (take 0 xs))
none-yet s f xs = mem-All (λ c. has_conflict (valid_on s c (map f xs)) ≡ false) [] (λ c m. absurd m)

pub whole-quiet : (s : Setting) {A : Type 0} (f : A → Claim) (xs : List A) (n : ℕ) → length xs ≤ n
    → AreQuiet s (map f xs) (map f (take n xs)) → has_conflict (filter (is_valid s) (map f xs)) ≡ false
whole-quiet s f xs n le quiet = all-quiet s (map f xs) (λ c m. All-mem
    (λ c. has_conflict (valid_on s c (map f xs)) ≡ false) (map f xs) c
    (subst (λ ys. AreQuiet s (map f xs) (map f ys)) (take_all n xs le) quiet) m)

-- what a test of kept claims answers
pub seen-is : (test : Claim → Bool) {A : Type 0} (f : A → Claim) (xs ys : List A) (b t : Bool) → b ≡ list_any (λ x. test (f x)) ys
    → ys ≡ xs → b ≡ t → list_any test (map f xs) ≡ t
seen-is test f xs ys b t e same is =
    sym (list_any-map f test xs) ∙ ap (list_any (λ x. test (f x))) (sym same) ∙ sym e ∙ is
