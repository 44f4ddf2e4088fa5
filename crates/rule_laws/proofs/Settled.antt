-- What a walk over numbers finds; what is removed, decided, delivered and fixed.
use Rattle.std.proofs.Common.{◌≡◌, ◌⊎◌, inl, inr, ℕ, zero, suc, ◌+◌, ◌-◌, ◌<◌, ◌≤◌, min, List, [], ◌∷◌, length, take, Option, Some, None, Bool, true, false, cond, refl, sym, ap, ◌∙◌, subst, arith}
use Rattle.std.specs.Prelude.{if◌then◌else◌, ◌&&◌, is_some, nat_le, filter_map, take_while, option_and_then, option_map, slice_index_or}
use Rattle.std.specs.List.{list_all, range_with_len, prefix_len}
use Rattle.std.proofs.lemmas.Bool.{both_ways, cases_lt, le-leb, lt-leb, leb-true}
use Rattle.std.proofs.lemmas.List.FromFn.{length-range_with_len, get_or-range_with_len}
use Rattle.group_defs.specs.Below.{is_some_and, Remove, Batch, Keep, Claim, view_of}
use Rattle.group_defs.specs.Process.{Delivered, places_in}
use Rattle.group_defs.specs.Certified.{number_of_members, is_certified, is_notified, payload_at, place_at, place_kept, fixed_length}
use Rattle.group_defs.specs.Due.{are_certified}
use Rattle.group_defs.specs.Settle.{decided_at, delivery}
use Rattle.pool_laws.specs.Least.{IsLeastBelow}
use Rattle.rule_laws.specs.Ending.{AnyIsFound, NextCandidate, RemovedBelow, DecidedIs, DeliverableIs, FixedLengthIs}
use Rattle.rule_laws.proofs.Certified.{backer}
use Rattle.rule_laws.proofs.Numbers.{same-test, least-same}
use Rattle.rule_laws.proofs.Ranks.{first-by-rank}
use Rattle.pool_laws.proofs.Counting.{fold-max}
use Rattle.pool_laws.proofs.Heard.{fold-attained, kept-is}
use Rattle.pool_laws.proofs.Members.{Mem, filter_map-mem, list_any-mem, mem-filter_map, mem-list_any}
use Rattle.pool_laws.proofs.Places.{range-mem, mem-range}

-- ---- numbers

pub any_is_found : AnyIsFound
any_is_found n test None none = same-test _ _
    (λ e. let x = list_any-mem test (range_with_len 0 n) e in absurd
    (both_ways _ (none x.0 (omega arith) (let lt = mem-range 0 n x.0 x.1 in omega (arith, lt))) x.2)) (λ e. absurd cc)
any_is_found n test (Some k) least = same-test _ _ (λ e. refl)
    (λ e. mem-list_any test (range_with_len 0 n) k (range-mem 0 n k (omega arith) (let lt = least.1 in omega (arith, lt))) least.2)

first-false : (a b : Bool) → a ≡ false → (a && b) ≡ false
first-false a b e = ap (λ a. a && b) e

second-false : (a b : Bool) → b ≡ false → (a && b) ≡ false
second-false true b e = e
second-false false b e = refl

pub next_candidate : NextCandidate
next_candidate a n test more None before none = λ j le lt. elim
    (cases_lt j a) [ inl less ↦ before j less | inr ge ↦ first-false (test j) (more j) (none j ge lt) ]
next_candidate a n test more (Some k) before least = (
  λ good. (omega arith, least.1, (λ i. least.2 i && good i), λ j le lt. earlier j lt),
  λ bad j lt. elim (cases_lt j k) [
    | inl less ↦ earlier j less
    | inr ge ↦
        (let same : k ≡ j = omega (arith, lt, ge) in subst (λ j. (test j && more j) ≡ false) same (second-false (test k) (more k) bad))
  ],
)
  where
    earlier : (j : ℕ) → j < k → (test j && more j) ≡ false
    earlier j lt = elim (cases_lt j a) [ inl less ↦ before j less | inr ge ↦ first-false (test j) (more j) (least.3 j ge lt) ]

-- ---- removed ranks

front-all : (test : ℕ → Bool) (ms : List ℕ) (r : ℕ) → r ≤ length ms → nat_le r (length (take_while test ms)) ≡ list_all test (take r ms)
front-all test ms zero le = le-leb 0 (length (take_while test ms)) (omega arith)
front-all test [] (suc r) le = absurd (omega (arith, le))
front-all test (m ∷ ms) (suc r) le = go (test m) (front-all test ms r (omega (arith, le)))
  where
    one-more : length (take (1 + prefix_len test ms) (m ∷ ms)) ≡ suc (length (take (prefix_len test ms) ms))
    one-more = let is : 1 + prefix_len test ms ≡ suc (prefix_len test ms) = omega arith in ap (λ n. length (take n (m ∷ ms))) is

    both-more : (a b : ℕ) → nat_le (suc a) (suc b) ≡ nat_le a b
    both-more a b = same-test _ _ (λ e. let l = leb-true (suc a) (suc b) e in le-leb a b (omega (arith, l)))
        (λ e. let l = leb-true a b e in le-leb (suc a) (suc b) (omega (arith, l)))

    go : (b : Bool) → nat_le r (length (take_while test ms)) ≡ list_all test (take r ms)
        → nat_le (suc r) (length (take (cond b (1 + prefix_len test ms) 0) (m ∷ ms))) ≡ (b && list_all test (take r ms))
    go true rest = ap (nat_le (suc r)) one-more ∙ both-more r (length (take_while test ms)) ∙ rest
    go false rest = lt-leb (suc r) 0 (omega arith)

pub removed_below : RemovedBelow
removed_below h r lt =
    same-test _ _
    (λ e. let l = leb-true r (min (number_of_members h - 1)
    (length (take_while (λ m. is_notified h (Remove m)) h.view.members))) e in sym here ∙ le-leb r
    (length (take_while (λ m. is_notified h (Remove m)) h.view.members)) (omega (arith, l)))
    (λ e. let l = leb-true r (length (take_while (λ m. is_notified h (Remove m)) h.view.members))
    (here ∙ e) in le-leb r (min (number_of_members h - 1) (length (take_while (λ m. is_notified h (Remove m)) h.view.members)))
    (omega (arith, l, lt)))
  where
    here : nat_le r (length (take_while (λ m. is_notified h (Remove m)) h.view.members))
        ≡ list_all (λ m. is_notified h (Remove m)) (take r h.view.members)
    here = front-all (λ m. is_notified h (Remove m)) h.view.members r (omega (arith, lt))

-- ---- the decision

pub decided_is : DecidedIs
decided_is s h o least =
    first-by-rank (decided_at s h) 0 (range_with_len 0 n) o
    (subst (λ len. IsLeastBelow len (λ r. is_some (decided_at s h (index r))) o) (sym (length-range_with_len 0 n))
    (least-same 0 n (λ r. is_some (decided_at s h r)) _ o (λ r le lt. ap (λ k. is_some (decided_at s h k)) (sym (number r lt))) least))
    ∙ go o least
  where
    n : ℕ
    n = number_of_members h

    index : ℕ → ℕ
    index r = slice_index_or (range_with_len 0 n) r 0

    number : (r : ℕ) → r < n → slice_index_or (range_with_len 0 n) r 0 ≡ r
    number r lt = get_or-range_with_len 0 n r 0 lt ∙ (let z : 0 + r ≡ r = omega arith in z)

    go : (o : Option ℕ) → IsLeastBelow n (λ r. is_some (decided_at s h r)) o
        → option_and_then (λ r. decided_at s h (slice_index_or (range_with_len 0 n) r 0)) o ≡ option_and_then (decided_at s h) o
    go None least = refl
    go (Some r) least = ap (decided_at s h) (number r least.1)

-- ---- delivery

pub deliverable_is : DeliverableIs
deliverable_is p = go (place_at p.pool (places_in p.delivered))
  where
    whole : (b : Batch) → is_some (delivery p.pool (places_in p.delivered) b) ≡ are_certified p.pool b
    whole [] = refl
    whole (m ∷ ms) = paid (payload_at p.pool m) (delivery p.pool (places_in p.delivered) ms) (whole ms)
      where
        paid : (o : Option (List ℕ)) (ds : Option (List Delivered)) → is_some ds ≡ are_certified p.pool ms
            → is_some (option_and_then (λ payload. option_map
            (λ rest. record { place = places_in p.delivered; message = m; payload = payload } ∷ rest) ds) o)
            ≡ (is_some o && are_certified p.pool ms)
        paid None ds e = refl
        paid (Some b) None e = e
        paid (Some b) (Some rest) e = e

    go : (o : Option Batch) → is_some (option_and_then (delivery p.pool (places_in p.delivered)) o) ≡ is_some_and o (are_certified p.pool)
    go None = refl
    go (Some b) = whole b

-- ---- the fixed length

pub fixed_length_is : FixedLengthIs
fixed_length_is h pool = record {
  beyond = λ x k b e.
      let said = (backer h (Keep x k b) pool.view.some e).1 in
      let kept : place_kept h said.0.statement ≡ Some k = ap (place_kept h) said.3 ∙ ap (λ t. if t then Some k else None) e in
      let most = fold-max (λ k. k + 1)
      (filter_map (λ (c : Claim). place_kept h c.statement) h.heard) 0 k
      (mem-filter_map (λ (c : Claim). place_kept h c.statement) h.heard said.0 k said.1 kept) in
      omega (arith, most);
  last = go (fold-attained (filter_map (λ (c : Claim). place_kept h c.statement) h.heard) 0);
}
  where
    go : (fixed_length h ≡ 0) ⊎ ((k : ℕ) × Mem k (filter_map (λ (c : Claim). place_kept h c.statement) h.heard) × (fixed_length h ≡ k + 1))
        → (fixed_length h ≡ 0) ⊎ ((x k : ℕ) × (b : Batch) × (fixed_length h ≡ suc k) × (is_certified h (Keep x k b) ≡ true))
    go (inl e) = inl e
    go (inr found) =
        let c = filter_map-mem (λ (c : Claim). place_kept h c.statement) h.heard found.0 found.1 in
        let kept = kept-is h c.0.statement found.0 c.2 in
        let one : fixed_length h ≡ suc found.0 = (let at = found.2 in omega (arith, at)) in
        inr (view_of c.0.statement, found.0, kept.0, one, kept.1)
