-- Which value is free, by its update and its cut.
use Rattle.std.proofs.Common.{◌≡◌, ◌⊎◌, inl, inr, ℕ, ◌-◌, ◌<◌, ◌≤◌, List, [], ◌∷◌, ◌++◌, map, length, Option, Some, None, Bool, true, false, refl, sym, ap, ◌∙◌, subst, arith, slice_get}
use Rattle.std.specs.Prelude.{◌&&◌, ◌||◌, ◌==◌, is_some, nat_lt, nat_le, filter, filter_map, flat_map, count_by}
use Rattle.std.specs.List.{list_any, cons_option}
use Rattle.std.proofs.lemmas.Bool.{both_ways, cases_lt, cases_order, eqb-true, eq-eqb, lt-ltb}
use Rattle.std.proofs.lemmas.List.Sums.{length-filter}
use Rattle.group_defs.specs.Below.{is_some_and, numbers_below, least, Update, Remove, Add, Renew, Value, update_numbers, value_numbers}
use Rattle.group_defs.specs.Views.{is_possible}
use Rattle.group_defs.specs.Process.{Setting, Pool, keyed}
use Rattle.group_defs.specs.Certified.{number_of_members, is_notified, notified_updates, place_at}
use Rattle.group_defs.specs.Values.{is_quorum, ends, is_free, free_value}
use Rattle.rule_laws.specs.Heard.{IsPool}
use Rattle.pool_laws.specs.Least.{IsLeastBelow}
use Rattle.rule_laws.specs.Perceived.{update_at}
use Rattle.rule_laws.specs.Ending.{may_update, may_cut, FreeInParts, end_of, EndsByMember, IsLeastCut, FreeValueIs, last_of, LastsByMember}
use Rattle.rule_laws.proofs.LeastIsDue.{least-mem, least-not-below}
use Rattle.rule_laws.proofs.Choosing.{least-some}
use Rattle.rule_laws.proofs.Notifying.{heard-notified, notified-heard, numbered-update, updates-rise}
use Rattle.pool_laws.proofs.Counting.{length-filter_map}
use Rattle.pool_laws.proofs.Members.{Mem, filter-mem, filter_map-mem, list_any-mem, mem-filter, mem-flat_map, mem-map}
use Rattle.pool_laws.proofs.Places.{mem-slice_get, slice_get-length}
use Rattle.pool_laws.proofs.Tests.{and-first, and-second, both-true}

-- ---- what members say

module _ {A B : Type 0} (g : A → Option B) (test : B → Bool) where
  count-said : (xs : List A) → count_by test (filter_map g xs) ≡ count_by (λ x. is_some_and (g x) test) xs
  count-said xs = sym (length-filter test (filter_map g xs)) ∙ length-filter_map g test xs ∙ length-filter (λ x. is_some_and (g x) test) xs

  any-said : (xs : List A) → list_any test (filter_map g xs) ≡ list_any (λ x. is_some_and (g x) test) xs
  any-said [] = refl
  any-said (x ∷ xs) = go (g x) (any-said xs)
    where
      go : (o : Option B) → list_any test (filter_map g xs) ≡ list_any (λ x. is_some_and (g x) test) xs
          → list_any test (cons_option o (filter_map g xs)) ≡ (is_some_and o test || list_any (λ x. is_some_and (g x) test) xs)
      go None e = e
      go (Some y) e = ap (λ b. test y || b) e

pub ends_by_member : EndsByMember
ends_by_member h test = (count-said (end_of h) test h.view.members, any-said (end_of h) test h.view.members)

pub lasts_by_member : LastsByMember
lasts_by_member h r test = (count-said (last_of h r) test h.view.members, any-said (last_of h r) test h.view.members)

-- ---- the two parts of a value

pub free_in_parts : FreeInParts
free_in_parts s h v = go (is_notified h v.update) (is_possible (keyed s) h.view v.update)
    (is_quorum h (count_by (λ k. nat_le k v.cut) (ends h))) (list_any (λ k. k == v.cut) (ends h))
    ((v.cut == 0) || is_some (place_at h (v.cut - 1)))
  where
    go : (a b c d e : Bool) → (a && b && c && d && e) ≡ ((a && b) && (c && d && e))
    go true true true d e = refl
    go true true false d e = refl
    go true false c d e = refl
    go false b c d e = refl

-- ---- the order of values

front-below : (ms ns xs ys : List ℕ) → length ms ≡ length ns → numbers_below ms ns ≡ true → numbers_below (ms ++ xs) (ns ++ ys) ≡ true
front-below [] [] xs ys same below = absurd cc
front-below [] (b ∷ ns) xs ys same below = absurd (omega (arith, same))
front-below (a ∷ ms) [] xs ys same below = absurd (omega (arith, same))
front-below (a ∷ ms) (b ∷ ns) xs ys same below = go (nat_lt a b) (a == b) below (front-below ms ns xs ys (omega (arith, same)))
  where
    go : (l e : Bool) → (l || (e && numbers_below ms ns)) ≡ true → (numbers_below ms ns ≡ true → numbers_below (ms ++ xs) (ns ++ ys) ≡ true)
        → (l || (e && numbers_below (ms ++ xs) (ns ++ ys))) ≡ true
    go true e below rest = refl
    go false true below rest = rest below
    go false false below rest = absurd cc

behind-below : (ms xs ys : List ℕ) → numbers_below xs ys ≡ true → numbers_below (ms ++ xs) (ms ++ ys) ≡ true
behind-below [] xs ys below = below
behind-below (a ∷ ms) xs ys below = go (nat_lt a a) (a == a) (eq-eqb a a refl) (behind-below ms xs ys below)
  where
    go : (l e : Bool) → e ≡ true → numbers_below (ms ++ xs) (ms ++ ys) ≡ true → (l || (e && numbers_below (ms ++ xs) (ms ++ ys))) ≡ true
    go true e is rest = refl
    go false true is rest = rest
    go false false is rest = absurd cc

two-numbers : (u : Update) → length (update_numbers u) ≡ 2
two-numbers (Remove p) = refl
two-numbers (Add p) = refl
two-numbers Renew = refl

one-below : (a b : ℕ) → a < b → numbers_below (a ∷ []) (b ∷ []) ≡ true
one-below a b lt = ap (λ t. t || ((a == b) && false)) (lt-ltb a b lt)

-- ---- the least free value

module _ (s : Setting) (h : Pool) (pool : IsPool h) where
  abbrev with_cuts : Update → List Value
  with_cuts u = map (λ k. record { update = u; cut = k }) (ends h)

  abbrev candidates : List Value
  candidates = flat_map with_cuts (notified_updates h)

  -- each free value is a candidate
  free-there : (v : Value) → is_free s h v ≡ true → Mem v (filter (is_free s h) candidates)
  free-there v e =
      let parts : (may_update s h v.update && may_cut h v.cut) ≡ true = sym (free_in_parts s h v) ∙ e in
      let notified = and-first (is_notified h v.update) (is_possible (keyed s) h.view v.update)
      (and-first (may_update s h v.update) (may_cut h v.cut) parts) in
      let said = and-second (is_quorum h (count_by (λ e. nat_le e v.cut) (ends h))) (list_any (λ e. e == v.cut) (ends h))
      (and-first (is_quorum h (count_by (λ e. nat_le e v.cut) (ends h)) && list_any (λ e. e == v.cut) (ends h))
      ((v.cut == 0) || is_some (place_at h (v.cut - 1))) (and-second (may_update s h v.update) (may_cut h v.cut) parts)) in
      let end = list_any-mem (λ e. e == v.cut) (ends h) said in
      let cut : Mem v.cut (ends h) = subst (λ k. Mem k (ends h)) (eqb-true end.0 v.cut end.2) end.1 in
      mem-filter (is_free s h) candidates v
      (mem-flat_map with_cuts (notified_updates h) v.update v (notified-heard h v.update notified)
      (mem-map (λ k. record { update = v.update; cut = k }) (ends h) v.cut cut)) e

  -- and what is free is made of an update and a cut that may end the view
  record FreeParts (v : Value) : Type 0 where
    pub number : ℕ
    pub few : number < 129
    pub update : update_at number ≡ v.update
    pub may : may_update s h (update_at number) ≡ true
    pub rank : ℕ
    pub member : ℕ
    pub at : slice_get h.view.members rank ≡ Some member
    pub said : end_of h member ≡ Some v.cut
    pub cut : may_cut h v.cut ≡ true

  free-parts : (v : Value) → is_free s h v ≡ true → FreeParts v
  free-parts v e =
      let parts : (may_update s h v.update && may_cut h v.cut) ≡ true = sym (free_in_parts s h v) ∙ e in
      let may = and-first (may_update s h v.update) (may_cut h v.cut) parts in
      let range = (heard-notified h pool v.update
      (notified-heard h v.update (and-first (is_notified h v.update) (is_possible (keyed s) h.view v.update) may))).1 in
      let number = numbered-update v.update range in
      let cuts = and-second (may_update s h v.update) (may_cut h v.cut) parts in
      let said = and-second (is_quorum h (count_by (λ e. nat_le e v.cut) (ends h))) (list_any (λ e. e == v.cut) (ends h))
      (and-first (is_quorum h (count_by (λ e. nat_le e v.cut) (ends h)) && list_any (λ e. e == v.cut) (ends h))
      ((v.cut == 0) || is_some (place_at h (v.cut - 1))) cuts) in
      let end = list_any-mem (λ e. e == v.cut) (ends h) said in
      let m = filter_map-mem (end_of h) h.view.members end.0 end.1 in
      let r = mem-slice_get h.view.members m.0 m.1 in
      record {
        number = number.0;
        few = number.1;
        update = number.2;
        may = ap (may_update s h) number.2 ∙ may;
        rank = r.0;
        member = m.0;
        at = r.1;
        said = m.2 ∙ ap Some (eqb-true end.0 v.cut end.2);
        cut = cuts;
      }

  none-free : ((v : Value) → is_free s h v ≡ true → ⊥) → free_value s h ≡ None
  none-free not = empty (filter (is_free s h) candidates) (λ v m. not v (filter-mem (is_free s h) candidates v m).1)
    where
      empty : (vs : List Value) → ((v : Value) → Mem v vs → ⊥) → least value_numbers vs ≡ None
      empty [] never = refl
      empty (v ∷ vs) never = absurd (never v (inl refl))

  -- the value of the least update and the least cut stands before each other one that is free
  module _ (i cut : ℕ) (update : IsLeastBelow 129 (λ i. may_update s h (update_at i)) (Some i))
      (cuts : IsLeastCut h (number_of_members h) (Some cut)) where
    abbrev value : Value
    value = record { update = update_at i; cut = cut }

    value-free : is_free s h value ≡ true
    value-free = free_in_parts s h value ∙ both-true _ _ update.2 cuts.1

    is-value : (v : Value) → FreeParts v → numbers_below (value_numbers value) (value_numbers v) ≡ false → v ≡ value
    is-value v it not = go (cases_order i it.number)
      where
        least-cut : cut ≤ v.cut
        least-cut = cuts.2 it.rank it.member v.cut (slice_get-length h.view.members it.rank it.member it.at) it.at it.said it.cut

        go : (i ≡ it.number) ⊎ ((i < it.number) ⊎ (it.number < i)) → v ≡ value
        go (inr (inr lt)) = absurd (both_ways _ (update.3 it.number (omega arith) lt) it.may)
        go (inr (inl lt)) =
            let below = front-below (update_numbers (update_at i)) (update_numbers (update_at it.number)) (cut ∷ []) (v.cut ∷ [])
            (two-numbers (update_at i) ∙ sym (two-numbers (update_at it.number))) (updates-rise i it.number lt it.few) in
            absurd (both_ways _ not (subst
            (λ u. numbers_below (value_numbers value) (update_numbers u ++ v.cut ∷ []) ≡ true) it.update below))
        go (inl same) = last (cases_lt cut v.cut)
          where
            update_is : v.update ≡ update_at i
            update_is = sym it.update ∙ ap update_at (sym same)

            last : (cut < v.cut) ⊎ (v.cut ≤ cut) → v ≡ value
            last (inl lt) = absurd (both_ways _ not
                (subst (λ u. numbers_below (value_numbers value) (update_numbers u ++ v.cut ∷ []) ≡ true) (sym update_is)
                (behind-below (update_numbers (update_at i)) (cut ∷ []) (v.cut ∷ []) (one-below cut v.cut lt))))
            last (inr le) = let cut_is : v.cut ≡ cut = omega (arith, least-cut, le) in λ j. record { update = update_is j; cut = cut_is j }

    least-value : free_value s h ≡ Some value
    least-value =
        let there = free-there value value-free in
        let y = least-some value_numbers (filter (is_free s h) candidates) value there in
        let passes = filter-mem (is_free s h) candidates y.0 (least-mem value_numbers (filter (is_free s h) candidates) y.0 y.1) in
        let not = least-not-below value_numbers (filter (is_free s h) candidates) y.0 value y.1 there in
        y.1 ∙ ap Some (is-value y.0 (free-parts y.0 passes.1) not)

pub free_value_is : FreeValueIs
free_value_is s h None cut pool none cuts = none-free s h pool
    (λ v e. let it = free-parts s h pool v e in both_ways _ (none it.number (omega arith) it.few) it.may)
free_value_is s h (Some i) None pool update none = none-free s h pool
    (λ v e. let it = free-parts s h pool v e in both_ways _
    (none it.rank it.member v.cut (slice_get-length h.view.members it.rank it.member it.at) it.at it.said) it.cut)
free_value_is s h (Some i) (Some cut) pool update cuts = least-value s h pool i cut update cuts
