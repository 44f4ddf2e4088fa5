-- What is certified stays certified as more is heard.
use Rattle.std.proofs.Common.{◌≡◌, ℕ, zero, suc, ◌+◌, ◌≤◌, List, [], ◌∷◌, ◌++◌, map, length, Option, Some, None, Bool, true, false, refl, sym, ap, ◌∙◌, subst, arith}
use Rattle.std.specs.Prelude.{if◌then◌else◌, filter, find, ◌&&◌, ◌==◌, option_map, option_and_then}
use Rattle.std.proofs.lemmas.Bool.{leb-true, le-leb}
use Rattle.group_defs.specs.Below.{is_some_and, Batch, Statement, Place, Slot, PlaceAt, Claim, slot_of, batch_of, same_slot, same_statement}
use Rattle.group_defs.specs.Views.{quorum}
use Rattle.group_defs.specs.Process.{Pool}
use Rattle.group_defs.specs.Certified.{claim_on, heard_on, says, backers, is_certified, certified_on, place_at, placed_from, placed, number_of_members}
use Rattle.std.proofs.lemmas.List.{map-append}
use Rattle.pool_laws.proofs.Counting.{length-filter-le}
use Rattle.pool_laws.proofs.Members.{Mem, filter-mem, find-is, mem-append, mem-filter, mem-find}
use Rattle.pool_laws.proofs.Slots.{same_slot-is}
use Rattle.pool_laws.proofs.Tests.{map-some, some-and, then-some}

-- ---- finding

pub find-append : {A : Type 0} (test : A → Bool) (xs ys : List A) (y : A) → find test xs ≡ Some y → find test (xs ++ ys) ≡ Some y
find-append test [] ys y e = absurd cc
find-append test (x ∷ xs) ys y e = go (test x) e (find-append test xs ys y)
  where
    go : (b : Bool) → (if b then Some x else find test xs) ≡ Some y → (find test xs ≡ Some y → find test (xs ++ ys) ≡ Some y)
        → (if b then Some x else find test (xs ++ ys)) ≡ Some y
    go true e rest = e
    go false e rest = rest e

-- ---- with more heard

abbrev pub with_more : Pool → List Claim → Pool
with_more h more = record { view = h.view; heard = h.heard ++ more }

module _ (h : Pool) (more : List Claim) where
  heard_on-stays : (signer : ℕ) (slot : Slot) (st : Statement) → heard_on h signer slot ≡ Some st
      → heard_on (with_more h more) signer slot ≡ Some st
  heard_on-stays signer slot st e =
      let c = map-some (λ (c : Claim). c.statement) (claim_on h.heard signer slot) st e in
      ap (option_map (λ c. c.statement))
      (find-append (λ c. (c.signer == signer) && same_slot (slot_of c.statement) slot) h.heard more c.0 c.1) ∙ ap Some c.2

  says-stays : (st : Statement) (m : ℕ) → says h st m ≡ true → says (with_more h more) st m ≡ true
  says-stays st m e =
      let said = some-and (heard_on h m (slot_of st)) (same_statement st) e in
      ap (λ o. is_some_and o (same_statement st)) (heard_on-stays m (slot_of st) said.0 said.1) ∙ said.2

  pub is_certified-stays : (st : Statement) → is_certified h st ≡ true → is_certified (with_more h more) st ≡ true
  is_certified-stays st e =
      let enough = leb-true (quorum (number_of_members h)) (length (backers h st)) e in
      let grown = length-filter-le (says h st) (says (with_more h more) st) h.view.members (says-stays st) in
      le-leb _ _ (omega (arith, enough, grown))

  abbrev on : Slot → Statement → Bool
  on slot st = same_slot (slot_of st) slot

  pub certified_on-stays : (slot : Slot) (st : Statement) → certified_on h slot ≡ Some st
      → (st' : Statement) × (certified_on (with_more h more) slot ≡ Some st')
  certified_on-stays slot st e =
      let found = find-is (is_certified h) (filter (on slot) (map (λ c. c.statement) h.heard)) st e in
      let heard = filter-mem (on slot) (map (λ c. c.statement) h.heard) st found.0 in
      let there : Mem st (map (λ c. c.statement) (h.heard ++ more)) = subst (Mem st) (sym (map-append (λ c. c.statement) h.heard more))
      (mem-append _ (map (λ c. c.statement) more) st heard.0) in
      mem-find (is_certified (with_more h more)) _ st (mem-filter (on slot) _ st there heard.1) (is_certified-stays st found.1)

  place-of : (x k : ℕ) (st : Statement) → slot_of st ≡ PlaceAt x k → (b : Batch) × (batch_of st ≡ Some b)
  place-of x k (Place y j b) e = (b, refl)
  place-of x k _ e = absurd cc

  place_at-stays : (k : ℕ) (b : Batch) → place_at h k ≡ Some b → (b' : Batch) × (place_at (with_more h more) k ≡ Some b')
  place_at-stays k b e =
      let was = then-some batch_of (certified_on h (PlaceAt h.view.number k)) b e in
      let stays = certified_on-stays (PlaceAt h.view.number k) was.0 was.1 in
      let found = find-is (is_certified (with_more h more))
      (filter (on (PlaceAt h.view.number k)) (map (λ c. c.statement) (h.heard ++ more))) stays.0 stays.1 in
      let slot = filter-mem (on (PlaceAt h.view.number k)) (map (λ c. c.statement) (h.heard ++ more)) stays.0 found.0 in
      let named = place-of h.view.number k stays.0 (same_slot-is (slot_of stays.0) (PlaceAt h.view.number k) slot.1) in
      (named.0, ap (option_and_then batch_of) stays.1 ∙ named.1)

  placed_from-grows : (left k : ℕ) → length (placed_from h left k) ≤ length (placed_from (with_more h more) left k)
  placed_from-grows zero k = omega arith
  placed_from-grows (suc left) k = go (place_at h k) refl (placed_from-grows left (k + 1))
    where
      further : (o : Option Batch) (b : Batch) → o ≡ Some b
          → length (placed_from h left (k + 1)) ≤ length (placed_from (with_more h more) left (k + 1))
          → suc (length (placed_from h left (k + 1)))
          ≤ length {A = Batch} (elim o [ None ↦ [] | Some b ↦ b ∷ placed_from (with_more h more) left (k + 1) ])
      further None b e le = absurd cc
      further (Some b') b e le = omega (arith, le)

      go : (o : Option Batch) → place_at h k ≡ o
          → length (placed_from h left (k + 1)) ≤ length (placed_from (with_more h more) left (k + 1))
          → length {A = Batch} (elim o [ None ↦ [] | Some b ↦ b ∷ placed_from h left (k + 1) ])
          ≤ length (placed_from (with_more h more) (suc left) k)
      go None e le = omega arith
      go (Some b) e le = let stays = place_at-stays k b e in further (place_at (with_more h more) k) stays.0 stays.1 le

  pub placed-grows : length (placed h) ≤ length (placed (with_more h more))
  unfolding placed
  placed-grows = placed_from-grows 1024 0
