-- What is told of the heard claims at a mark, when nothing is heard and with one claim more.
use Rattle.std.proofs.Common.{◌≡◌, ℕ, zero, suc, ◌+◌, ◌<◌, ◌≤◌, List, [], ◌∷◌, length, take, Option, Some, None, false, refl, sym, ap, ◌∙◌, subst, arith, slice_get, replicate}
use Rattle.std.proofs.lemmas.List.{length-take}
use Rattle.message_defs.specs.Updates.{Update}
use Rattle.message_defs.specs.Statements.{Batch, Claim, slot_of}
use Rattle.group_defs.specs.Views.{View}
use Rattle.group_defs.specs.Process.{Pool}
use Rattle.group_defs.specs.Certified.{claim_on, place_at, placed_from, placed, number_of_members}
use Rattle.slot_quorums.specs.Claims.{empty_pool, with_heard}
use Rattle.placed_batches.specs.Rows.{Prefix}
use Rattle.pool_values.specs.declared.updates.UpdateSet.{UpdateSet}
use Rattle.pool_values.specs.declared.places.Reached.{Reached}
use Rattle.pool_values.specs.Updates.{has_update}
use Rattle.pool_values.specs.Ends.{AreInitsEnds}
use Rattle.pool_values.specs.Places.{ArePlaced, AreCounted, AreMarkedCounted, placed_in}
use Rattle.pool_values.proofs.PlacedLength.{empty-counted, more-placed}
use Rattle.pool_values.proofs.Ended.{none-heard}

-- ---- of an empty pool

abbrev first : ℕ → Prefix → Prefix
first n p = record p { batches = take n p.batches }

none-first : (v : View) (n : ℕ) → n ≡ 0 → first n (record { view = v; batches = [] }) ≡ record { view = v; batches = [] }
none-first v n none = ap (λ n. first n (record { view = v; batches = [] })) none

pub empty-marked : (v : View) (p : Prefix) (h g : Pool) (s : UpdateSet) (m : Reached) → p ≡ record { view = v; batches = [] }
    → h ≡ empty_pool v → g ≡ empty_pool v → ((u : Update) → has_update s u ≡ false) → (ends : List ℕ) → ends ≡ replicate 64 0
    → m.placed ≡ 0 → m.fixed ≡ 0 → ((u : Update) → has_update m.notified u ≡ false) → m.ends ≡ replicate 64 0
    → AreMarkedCounted h g p 0 s ends m
empty-marked v p h g s m prefix pool marked none ends zeros placed fixed none_then zeros_then = record {
  here = empty-counted v p h s prefix pool none ends (none-heard v h ends pool zeros);
  there = subst (λ n. AreCounted g (first m.placed p) n m.notified m.ends) (sym fixed)
      (empty-counted v (first m.placed p) g m.notified (ap (first m.placed) prefix ∙ none-first v m.placed placed) marked none_then
      m.ends (none-heard v g m.ends marked zeros_then));
  few = omega (arith, placed);
}

-- ---- with one claim more

-- places that are certified from the first on are the first of all that are
module _ (h : Pool) where
  first-from : (bs : List Batch) (more k : ℕ) → length bs ≤ more
      → ((j : ℕ) (b : Batch) → slice_get bs j ≡ Some b → place_at h (k + j) ≡ Some b) → bs ≡ take (length bs) (placed_from h more k)
  first-from [] more k le are = sym (none (placed_from h more k))
    where
      none : {A : Type 0} (xs : List A) → take zero xs ≡ []
      none [] = refl
      none (x ∷ xs) = refl
  first-from (b ∷ bs) zero k le are = absurd (omega (arith, le))
  first-from (b ∷ bs) (suc more) k le are =
      let here : place_at h k ≡ Some b = (let same : k + 0 ≡ k = omega arith in subst (λ j. place_at h j ≡ Some b) same (are 0 b refl)) in
      let rest = first-from bs more (k + 1) (omega (arith, le)) (λ j c at.
      let same : k + suc j ≡ k + 1 + j = omega arith in subst (λ j. place_at h j ≡ Some c) same (are (suc j) c at)) in
      ap (λ more. b ∷ more) rest ∙ sym (ap (λ (o : Option Batch). take (suc (length bs))
      (elim o [ None ↦ [] | Some b ↦ b ∷ placed_from h more (k + 1) ])) here)

  first-placed : (bs : List Batch) → ArePlaced h bs → bs ≡ take (length bs) (placed h)
  unfolding placed
  first-placed bs are = first-from bs 1024 0 are.few (λ j b at.
      let same : j ≡ 0 + j = omega arith in subst (λ j. place_at h j ≡ Some b) same (are.each j b at))

taken-again : {A : Type 0} (k n : ℕ) (xs : List A) → k ≤ n → take k (take n xs) ≡ take k xs
taken-again zero n xs le = none (take n xs) ∙ sym (none xs)
  where
    none : {A : Type 0} (xs : List A) → take zero xs ≡ []
    none [] = refl
    none (x ∷ xs) = refl
taken-again (suc k) zero xs le = absurd (omega (arith, le))
taken-again (suc k) (suc n) [] le = refl
taken-again (suc k) (suc n) (x ∷ xs) le = ap (λ more. x ∷ more) (taken-again k n xs (omega (arith, le)))

module _ (h : Pool) (c : Claim) (fresh : claim_on h.heard c.signer (slot_of c.statement) ≡ None) (some : 1 ≤ number_of_members h) where
  first-stays : (n : ℕ) → n ≤ length (placed h) → take n (placed (with_heard h c)) ≡ take n (placed h)
  first-stays n le =
      let all = first-placed (with_heard h c) (placed h) (more-placed h c fresh some) in
      sym (ap (take n) all ∙ taken-again n (length (placed h)) (placed (with_heard h c)) le)

  short : (n : ℕ) → n ≤ length (placed h) → n ≤ length (placed (with_heard h c))
  short n le =
      let all = ap length (first-placed (with_heard h c) (placed h) (more-placed h c fresh some)) in
      let least = length-take (length (placed h)) (placed (with_heard h c)) in
      omega (arith, le, all, least)

  pub still-marked : (k g : Pool) (p q : Prefix) (kept_to kept_now : ℕ) (s t : UpdateSet) (ends ends' : List ℕ) (m : Reached)
      → k ≡ with_heard h c → AreMarkedCounted h g p kept_to s ends m → AreCounted k q kept_now t ends'
      → AreMarkedCounted k g q kept_now t ends' m
  still-marked k g p q kept_to kept_now s t ends ends' m is was here =
      let old = was.here.places in
      let new = here.places ∙ ap placed_in is in
      let few : m.placed ≤ length (placed h) = subst (λ (p : Prefix). m.placed ≤ length p.batches) old was.few in
      let same : first m.placed (placed_in (with_heard h c)) ≡ first m.placed (placed_in h) =
      λ i. record { view = h.view; batches = first-stays m.placed few i } in
      record {
        here = here;
        there = subst (λ p. AreCounted g p m.fixed m.notified m.ends)
            (ap (first m.placed) old ∙ sym same ∙ ap (first m.placed) (sym new)) was.there;
        few = subst (λ (p : Prefix). m.placed ≤ length p.batches) (sym new) (short m.placed few);
      }
