-- What a deputy chooses: a justified value where there is one, and one that an earlier rank may have decided before a free one.
use Rattle.std.proofs.Common.{◌≡◌, inl, inr, ℕ, zero, suc, ◌+◌, ◌<◌, ◌≤◌, List, [], ◌∷◌, ◌++◌, map, reverse, length, Option, Some, None, Bool, true, false, refl, sym, ap, ◌∙◌, subst, arith}
use Rattle.std.specs.Prelude.{if◌then◌else◌, ◌&&◌, ◌||◌, ◌==◌, ◌-◌, nat_lt, nat_le, filter, filter_map, flat_map, count_by, is_some, option_map}
use Rattle.std.specs.List.{list_any, range_with_len}
use Rattle.std.specs.Option.{option_or}
use Rattle.std.proofs.lemmas.Bool.{eqb-true, ltb-true, ltb-false}
use Rattle.std.proofs.lemmas.List.{reverse-append}
use native.Mathlib.Decide.{ℕ_discrete}
use Rattle.group_defs.specs.Below.{first_some, least, option_discrete, pair_discrete, Update, Value, Value-discrete, value_numbers, Statement, Notify, Claim, Ack}
use Rattle.group_defs.specs.Views.{faulty, is_possible}
use Rattle.group_defs.specs.Process.{Setting, Pool, keyed}
use Rattle.group_defs.specs.Certified.{says, backers, is_notified, place_at, update_said, notified_updates, number_of_members, is_certified}
use Rattle.group_defs.specs.Values.{ends, is_quorum, is_free, free_value, lasts, same_ready, is_first_way, is_second_way, is_justified, reported, adopted, is_at_most}
use Rattle.group_defs.specs.Laws.{IsChoice, DeputyAdopts, DeputyChooses}
use Rattle.pool_laws.proofs.Heard.{heard-says}
use Rattle.rule_laws.proofs.LeastIsDue.{least-mem}
use Rattle.pool_laws.proofs.Members.{Mem, filter-mem, list_any-mem, mem-filter, mem-filter_map, mem-flat_map, mem-list_any, mem-map, some-mem}
use Rattle.pool_laws.proofs.Places.{range-mem}
use Rattle.pool_laws.proofs.Tests.{and-first, and-four, and-second, or-cases, some-same, yes-is}

-- ---- lists

pub least-some : {A : Type 0} (key : A → List ℕ) (xs : List A) (y : A) → Mem y xs → (z : A) × (least key xs ≡ Some z)
least-some key [] y m = absurd m
least-some key (x ∷ xs) y m = (_, refl)

range-snoc : (a n : ℕ) → range_with_len a (suc n) ≡ range_with_len a n ++ (a + n) ∷ []
range-snoc a zero = let same : a ≡ a + zero = omega arith in ap (λ b. b ∷ []) same
range-snoc a (suc n) = let same : (a + 1) + n
    ≡ a + suc n = omega arith in ap (λ rest. a ∷ rest) (range-snoc (a + 1) n ∙ ap (λ b. range_with_len (a + 1) n ++ b ∷ []) same)

falling : (n : ℕ) → reverse (range_with_len 0 (suc n)) ≡ n ∷ reverse (range_with_len 0 n)
falling n = let same : 0 + n ≡ n = omega arith in ap reverse (range-snoc 0 n) ∙ reverse-append (range_with_len 0 n)
    ((0 + n) ∷ []) ∙ ap (λ b. b ∷ reverse (range_with_len 0 n)) same

module _ {B : Type 0} (g : ℕ → Option B) where
  -- the last of the numbers below n that has an answer
  pub record LastOf (n : ℕ) (y : B) : Type 0 where
    pub at : ℕ
    pub below : at < n
    pub answers : g at ≡ Some y
    pub later : (r : ℕ) → at < r → r < n → g r ≡ None

  not-at : (n r : ℕ) → r < suc n → g n ≡ None → (r < n → g r ≡ None) → g r ≡ None
  not-at n r lt here rest = go (nat_lt r n) refl
    where
      go : (b : Bool) → nat_lt r n ≡ b → g r ≡ None
      go true f = rest (ltb-true r n f)
      go false f = let ge = ltb-false r n f in let same : r ≡ n = omega (arith, ge, lt) in ap g same ∙ here

  abbrev pub first_falling : ℕ → Option B
  first_falling n = first_some g (reverse (range_with_len 0 n))

  pub last-of : (n : ℕ) (y : B) → first_falling n ≡ Some y → LastOf n y
  last-of zero y e = absurd cc
  last-of (suc n) y e = go (g n) refl (sym (ap (first_some g) (falling n)) ∙ e) (last-of n y)
    where
      go : (o : Option B) → g n ≡ o → (let it : Option B = elim o [ None ↦ first_falling n | Some z ↦ Some z ] in it ≡ Some y)
          → (first_falling n ≡ Some y → LastOf n y) → LastOf (suc n) y
      go (Some z) is e rest = record {
        at = n;
        below = omega arith;
        answers = is ∙ e;
        later = λ r above below. absurd (omega (arith, above, below));
      }
      go None is e rest =
          let found = rest e in
          let room = found.below in
          record {
            at = found.at;
            below = omega (arith, room);
            answers = found.answers;
            later = λ r above below. not-at n r below is (found.later r above);
          }

  pub none-of : (n : ℕ) → first_falling n ≡ None → (r : ℕ) → r < n → g r ≡ None
  none-of zero e r lt = absurd (omega (arith, lt))
  none-of (suc n) e r lt = go (g n) refl (sym (ap (first_some g) (falling n)) ∙ e) (none-of n)
    where
      go : (o : Option B) → g n ≡ o → (let it : Option B = elim o [ None ↦ first_falling n | Some z ↦ Some z ] in it ≡ None)
          → (first_falling n ≡ None → (r : ℕ) → r < n → g r ≡ None) → g r ≡ None
      go (Some z) is e rest = absurd cc
      go None is e rest = not-at n r lt is (rest e r)

-- ---- the second way

pub second-parts : (h : Pool) (r r0 : ℕ) (w : Value) → is_second_way h r r0 w ≡ true
    → (nat_lt r0 r ≡ true) × (is_quorum h (count_by (is_at_most r0) (lasts h r)) ≡ true)
    × (list_any (same_ready (Some (r0, w))) (lasts h r) ≡ true) × (is_certified h (Ack h.view.number r0 w) ≡ true)
second-parts h r r0 w e = and-four (nat_lt r0 r) (is_quorum h (count_by (is_at_most r0) (lasts h r)))
    (list_any (same_ready (Some (r0, w))) (lasts h r)) (is_certified h (Ack h.view.number r0 w)) e

module _ (h : Pool) (r : ℕ) where
  pub adopted-is : (r0 : ℕ) (v : Value) → adopted h r r0 ≡ Some v → is_second_way h r r0 v ≡ true
  adopted-is r0 v e = (filter-mem (is_second_way h r r0)
      (reported h r) v (least-mem value_numbers (filter (is_second_way h r r0) (reported h r)) v e)).1

  -- a value of the second way was reported
  pub is-adopted : (r0 : ℕ) (w : Value) → is_second_way h r r0 w ≡ true → (v : Value) × (adopted h r r0 ≡ Some v)
  is-adopted r0 w e =
      let way = second-parts h r r0 w e in
      let said = list_any-mem (same_ready (Some (r0, w))) (lasts h r) way.2 in
      let is : Some (r0, w) ≡ said.0 = yes-is (option_discrete (pair_discrete ℕ_discrete Value-discrete) (Some (r0, w)) said.0) said.2 in
      let there : Mem w (reported h r) = mem-filter_map (option_map (λ (ready : ℕ × Value). ready.1))
      (lasts h r) said.0 w said.1 (ap (option_map (λ (ready : ℕ × Value). ready.1)) (sym is)) in
      least-some value_numbers (filter (is_second_way h r r0) (reported h r)) w (mem-filter (is_second_way h r r0) (reported h r) w there e)

  none-adopted : (r0 : ℕ) (w : Value) → is_second_way h r r0 w ≡ true → adopted h r r0 ≡ None → ⊥
  none-adopted r0 w e none = let v = is-adopted r0 w e in absurd (let clash : None ≡ Some v.0 = sym none ∙ v.1 in cc)

  below : (r0 : ℕ) (w : Value) → is_second_way h r r0 w ≡ true → r0 < r
  below r0 w e = ltb-true r0 r (second-parts h r r0 w e).0

-- ---- free values

free-listed : (s : Setting) (h : Pool) (v : Value) → is_free s h v ≡ true → (w : Value) × (free_value s h ≡ Some w)
free-listed s h v e =
    let parts = and-four (is_notified h v.update && is_possible (keyed s) h.view v.update)
    (is_quorum h (count_by (λ k. nat_le k v.cut) (ends h))) (list_any (λ k. k == v.cut) (ends h))
    ((v.cut == 0) || is_some (place_at h (v.cut - 1))) e in
    let notified = and-first (is_notified h v.update) (is_possible (keyed s) h.view v.update) parts.0 in
    let st : Statement = Notify h.view.number v.update in
    let many : faulty (number_of_members h) < length (backers h st) = ltb-true (faulty (number_of_members h))
    (length (backers h st)) notified in
    let backer = some-mem (backers h st) (omega (arith, many)) in
    let said = heard-says h st backer.0 (filter-mem (says h st) h.view.members backer.0 backer.1).1 in
    let update : Mem v.update (notified_updates h) = mem-filter (is_notified h)
    (filter_map (λ (c : Claim). update_said c.statement) h.heard) v.update
    (mem-filter_map (λ (c : Claim). update_said c.statement) h.heard said.0 v.update said.1 (ap update_said said.3)) notified in
    let cut = list_any-mem (λ k. k == v.cut) (ends h) parts.2 in
    let end : Mem v.cut (ends h) = subst (λ k. Mem k (ends h)) (eqb-true cut.0 v.cut cut.2) cut.1 in
    let pairs : Update → List Value = λ u. map (λ k. record { update = u; cut = k }) (ends h) in
    let there : Mem v (flat_map pairs (notified_updates h)) = mem-flat_map pairs (notified_updates h) v.update v update
    (mem-map (λ k. record { update = v.update; cut = k }) (ends h) v.cut end) in
    least-some value_numbers (filter (is_free s h) (flat_map pairs (notified_updates h))) v
    (mem-filter (is_free s h) (flat_map pairs (notified_updates h)) v there e)

free-is : (s : Setting) (h : Pool) (v : Value) → free_value s h ≡ Some v → is_free s h v ≡ true
free-is s h v e = (filter-mem (is_free s h) _ v (least-mem value_numbers (filter (is_free s h) _) v e)).1

-- ---- the choice

module _ (s : Setting) (h : Pool) (r : ℕ) where
  first-justified : (v : Value) → is_free s h v ≡ true → is_first_way h r ≡ true → is_justified s h r v ≡ true
  first-justified v free first = go (is_free s h v) free (is_first_way h r) first
    where
      go : (a : Bool) → a ≡ true → (b : Bool) → b ≡ true → ((a && b) || list_any (λ r0. is_second_way h r r0 v) (range_with_len 0 r)) ≡ true
      go true e true f = refl
      go true e false f = absurd cc
      go false e b f = absurd cc

  second-justified : (r0 : ℕ) (v : Value) → is_second_way h r r0 v ≡ true → is_justified s h r v ≡ true
  second-justified r0 v e = go (is_free s h v && is_first_way h r)
      (mem-list_any (λ r0. is_second_way h r r0 v)
      (range_with_len 0 r) r0 (range-mem 0 r r0 (omega arith) (let lt = below h r r0 v e in omega (arith, lt))) e)
    where
      go : (a : Bool) {b : Bool} → b ≡ true → (a || b) ≡ true
      go true e = refl
      go false e = e

  chosen : (v : Value) (o : Option Value) → first_some (adopted h r) (reverse (range_with_len 0 r)) ≡ o → (b : Bool) → is_first_way h r ≡ b
      → option_or o (if b then free_value s h else None) ≡ Some v → IsChoice s h r v
  chosen v (Some w) e b first is =
      let last = last-of (adopted h r) r w e in
      let same : w ≡ v = some-same w v is in
      let second : is_second_way h r last.at v
      ≡ true = subst (λ v. is_second_way h r last.at v ≡ true) same (adopted-is h r last.at w last.answers) in
      record {
        justified = second-justified last.at v second;
        adopts = λ r0 u way. (last.at, least r0 u way last.at last.later (nat_lt last.at r0) refl, second);
      }
    where
      least : (r0 : ℕ) (u : Value) → is_second_way h r r0 u ≡ true → (r1 : ℕ) → ((r2 : ℕ) → r1 < r2 → r2 < r → adopted h r r2 ≡ None)
          → (b : Bool) → nat_lt r1 r0 ≡ b → r0 ≤ r1
      least r0 u way r1 none true lt = absurd (none-adopted h r r0 u way (none r0 (ltb-true r1 r0 lt) (below h r r0 u way)))
      least r0 u way r1 none false ge = ltb-false r1 r0 ge
  chosen v None e true first is = record {
    justified = first-justified v (free-is s h v is) first;
    adopts = λ r0 u way. absurd (none-adopted h r r0 u way (none-of (adopted h r) r e r0 (below h r r0 u way)));
  }
  chosen v None e false first is = absurd cc

pub deputy_adopts : DeputyAdopts
deputy_adopts s h r v e = chosen s h r v (first_some (adopted h r) (reverse (range_with_len 0 r))) refl (is_first_way h r) refl e

pub deputy_chooses : DeputyChooses
deputy_chooses s h r v justified = go (first_some (adopted h r) (reverse (range_with_len 0 r))) refl
  where
    second : (o : Option Value) → o ≡ None → first_some (adopted h r) (reverse (range_with_len 0 r)) ≡ o
        → list_any (λ r0. is_second_way h r r0 v) (range_with_len 0 r) ≡ true → ⊥
    second o none e any =
        let r0 = list_any-mem (λ r0. is_second_way h r r0 v) (range_with_len 0 r) any in
        none-adopted h r r0.0 v r0.2 (none-of (adopted h r) r (e ∙ none) r0.0 (below h r r0.0 v r0.2))

    first : (b : Bool) → b ≡ true → is_free s h v ≡ true → is_some (if b then free_value s h else None) ≡ true
    first true f free = let w = free-listed s h v free in ap is_some w.1
    first false f free = absurd cc

    go : (o : Option Value) → first_some (adopted h r) (reverse (range_with_len 0 r)) ≡ o
        → is_some (option_or o (if is_first_way h r then free_value s h else None)) ≡ true
    go (Some w) e = refl
    go None e = elim (or-cases (is_free s h v && is_first_way h r)
        (list_any (λ r0. is_second_way h r r0 v) (range_with_len 0 r)) justified) [
          | inl free ↦ first (is_first_way h r) (and-second (is_free s h v) (is_first_way h r) free)
              (and-first (is_free s h v) (is_first_way h r) free)
          | inr any ↦ absurd (second None refl e any)
        ]
