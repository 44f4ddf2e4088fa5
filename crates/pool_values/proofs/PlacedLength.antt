-- The places that are certified from the first on: all of them, with one place and with one claim more.
use Rattle.std.proofs.Common.{◌≡◌, inl, inr, ℕ, zero, suc, ◌+◌, ◌<◌, ◌≤◌, List, [], ◌∷◌, ◌++◌, length, Option, Some, None, Bool, true, false, refl, sym, ap, ◌∙◌, arith, slice_get}
use Rattle.std.specs.Prelude.{option_and_then, filter, nat_lt, ◌&&◌}
use Rattle.std.proofs.lemmas.Bool.{le-ltb, eq-eqb}
use Rattle.message_defs.specs.Updates.{Update}
use Rattle.message_defs.specs.Statements.{Batch, Statement, Place, Notify, Claim, PlaceAt, slot_of, batch_of}
use Rattle.group_defs.specs.Views.{View, faulty}
use Rattle.group_defs.specs.Process.{Pool}
use Rattle.group_defs.specs.Certified.{claim_on, says, certified_on, place_at, placed_from, placed, fixed_length, place_kept, is_certified, is_notified, number_of_members}
use Rattle.pool_laws.proofs.Grown.{certified-stays, none-stays}
use Rattle.pool_laws.proofs.Heard.{placed-at}
use Rattle.pool_laws.proofs.Places.{Compared, ahead, level, behind, compared, get-some, slice_get-snoc, length-snoc}
use Rattle.pool_laws.proofs.Tests.{then-some, some-same}
use Rattle.pool_laws.proofs.Fixed as fixed
use Rattle.pool_laws.proofs.Fixed.{fixed_length-grown}
use Rattle.slot_quorums.specs.Claims.{empty_pool, with_heard}
use Rattle.placed_batches.specs.Rows.{Prefix}
use Rattle.pool_values.specs.declared.updates.UpdateSet.{UpdateSet}
use Rattle.pool_values.specs.Updates.{has_update}
use Rattle.pool_values.specs.Ends.{AreInitsEnds}
use Rattle.pool_values.specs.Places.{ArePlaced, AreCounted, is_place_of, placed_in, after_one}

same-lists : {A : Type 0} (xs ys : List A) → length xs ≡ length ys
    → ((k : ℕ) (x y : A) → slice_get xs k ≡ Some x → slice_get ys k ≡ Some y → x ≡ y) → xs ≡ ys
same-lists [] [] e each = refl
same-lists [] (y ∷ ys) e each = absurd (omega (arith, e))
same-lists (x ∷ xs) [] e each = absurd (omega (arith, e))
same-lists (x ∷ xs) (y ∷ ys) e each = let here = each zero x y refl refl in let rest = same-lists xs ys (omega (arith, e))
    (λ k a b at at'. each (suc k) a b at at') in λ i. here i ∷ rest i

module _ (h : Pool) where
  few-from : (more k : ℕ) → length (placed_from h more k) ≤ more
  few-from zero k = omega arith
  few-from (suc more) k = go (place_at h k) (few-from more (k + 1))
    where
      go : (o : Option Batch) → length (placed_from h more (k + 1)) ≤ more
          → length {A = Batch} (elim o [ None ↦ [] | Some b ↦ b ∷ placed_from h more (k + 1) ]) ≤ suc more
      go None le = omega arith
      go (Some b) le = omega (arith, le)

  -- behind the last is one that is not certified
  stop-from : (more k j : ℕ) → j ≡ k + length (placed_from h more k) → length (placed_from h more k) < more → place_at h j ≡ None
  stop-from zero k j e lt = absurd (omega (arith, lt))
  stop-from (suc more) k j e lt = go (place_at h k) refl e lt (stop-from more (k + 1) j)
    where
      go : (o : Option Batch) → place_at h k ≡ o
          → j ≡ k + length {A = Batch} (elim o [ None ↦ [] | Some b ↦ b ∷ placed_from h more (k + 1) ])
          → length {A = Batch} (elim o [ None ↦ [] | Some b ↦ b ∷ placed_from h more (k + 1) ]) < suc more
          → (j ≡ k + 1 + length (placed_from h more (k + 1)) → length (placed_from h more (k + 1)) < more → place_at h j ≡ None)
          → place_at h j ≡ None
      go None is e lt rest = let same : k ≡ j = omega (arith, e) in ap (place_at h) (sym same) ∙ is
      go (Some b) is e lt rest = rest (omega (arith, e)) (omega (arith, lt))

  pub few-placed : length (placed h) ≤ 1024
  unfolding placed
  few-placed = few-from 1024 0

  stop : length (placed h) < 1024 → place_at h (length (placed h)) ≡ None
  unfolding placed
  stop lt = stop-from 1024 0 (length (placed_from h 1024 0)) (omega arith) lt

  -- places that are certified from the first on, up to one that is not
  last : (n : ℕ) → n ≤ 1024 → ((k : ℕ) → k < n → (b : Batch) × (place_at h k ≡ Some b)) → (n < 1024 → place_at h n ≡ None)
      → n ≡ length (placed h)
  last n few are next = go (compared n (length (placed h)))
    where
      go : Compared n (length (placed h)) → n ≡ length (placed h)
      go (ahead lt) = absurd (let at = get-some
          (placed h) n lt in let some = placed-at h n at.0 at.1 in let le = few-placed in let none = next (omega (arith, lt, le)) in cc)
      go (level e) = e
      go (behind gt) = absurd (let some = are (length (placed h)) gt in let is = some.1 in let none = stop (omega (arith, gt, few)) in cc)

  -- are all that are placed
  pub placed-are : (bs : List Batch) → ArePlaced h bs → (length bs < 1024 → place_at h (length bs) ≡ None) → bs ≡ placed h
  placed-are bs are next =
      same-lists bs (placed h) (last (length bs) are.few (λ k lt. let at = get-some bs k lt in (at.0, are.each k at.0 at.1)) next)
      (λ k x y at at'. let one = are.each k x at in let two = placed-at h k y at' in some-same x y (sym one ∙ two))

  -- with the next place
  pub placed-push : (bs : List Batch) (b : Batch) → ArePlaced h bs → length bs < 1024 → place_at h (length bs) ≡ Some b
      → ArePlaced h (bs ++ b ∷ [])
  placed-push bs b are lt at = record {
    each = λ k x e. elim (slice_get-snoc bs b k x e) [
      | inl early ↦ are.each k x early
      | inr late ↦ (ap (place_at h) late.0 ∙ at ∙ ap Some late.1)
    ];
    few = (let one = length-snoc bs b in omega (arith, lt, one));
  }

-- which they are behind the last of them
pub placed-prefix : (h : Pool) (p : Prefix) → p.view ≡ h.view → ArePlaced h p.batches
    → (length p.batches < 1024 → place_at h (length p.batches) ≡ None) → p ≡ placed_in h
placed-prefix h p view are next = λ i. record { view = view i; batches = placed-are h p.batches are next i }

-- with one claim more all stay
pub more-placed : (h : Pool) (c : Claim) → claim_on h.heard c.signer (slot_of c.statement) ≡ None → 1 ≤ number_of_members h
    → ArePlaced (with_heard h c) (placed h)
more-placed h c fresh some = record {
  each = λ k b at.
      let was = then-some batch_of (certified_on h (PlaceAt h.view.number k)) b (placed-at h k b at) in
      ap (option_and_then batch_of) (certified-stays h c fresh some (PlaceAt h.view.number k) was.0 was.1) ∙ was.2;
  few = few-placed h;
}

-- ---- a claim certifies no place where it is no Place of the next place, or is not certified itself

not-next : (st : Statement) (x n : ℕ) → is_place_of n st ≡ false → slot_of st ≡ PlaceAt x n → ⊥
not-next (Place y k b) x n other at = let same : k ≡ n = cc in let both : true ≡ false = sym (eq-eqb k n same) ∙ other in cc
not-next _ x n other at = cc

other-then : (a b : Bool) → (a && b) ≡ false → b ≡ true → a ≡ false
other-then true true e f = absurd cc
other-then true false e f = absurd cc
other-then false b e f = refl

module _ (h : Pool) (c : Claim) (fresh : claim_on h.heard c.signer (slot_of c.statement) ≡ None) (some : 1 ≤ number_of_members h)
    (not : (is_place_of (length (placed h)) c.statement && is_certified (with_heard h c) c.statement) ≡ false) where
  same-next : certified_on (with_heard h c) (PlaceAt h.view.number (length (placed h)))
      ≡ certified_on h (PlaceAt h.view.number (length (placed h)))
  same-next = go (certified_on h (PlaceAt h.view.number (length (placed h)))) refl
    where
      go : (o : Option Statement) → certified_on h (PlaceAt h.view.number (length (placed h))) ≡ o
          → certified_on (with_heard h c) (PlaceAt h.view.number (length (placed h)))
          ≡ certified_on h (PlaceAt h.view.number (length (placed h)))
      go None e = none-stays h c fresh some (PlaceAt h.view.number (length (placed h))) e
          (λ at certified. not-next c.statement h.view.number (length (placed h))
          (other-then (is_place_of (length (placed h)) c.statement) (is_certified (with_heard h c) c.statement) not certified) at) ∙ sym e
      go (Some st) e = certified-stays h c fresh some (PlaceAt h.view.number (length (placed h))) st e ∙ sym e

  same : placed h ≡ placed (with_heard h c)
  same = placed-are (with_heard h c) (placed h) (more-placed h c fresh some)
      (λ lt. ap (option_and_then batch_of) same-next ∙ stop h lt)

  pub same-placed : placed_in (with_heard h c) ≡ placed_in h
  same-placed = λ i. record { view = h.view; batches = sym same i }

-- ---- how far the places are kept

same-after : (most : ℕ) (o : Option ℕ) → after_one most o ≡ fixed.after_one most o
same-after most None = refl
same-after most (Some k) = refl

-- with one claim more
pub more-fixed : (h : Pool) (c : Claim) (kept_to : ℕ) → claim_on h.heard c.signer (slot_of c.statement) ≡ None → kept_to ≡ fixed_length h
    → after_one kept_to (place_kept (with_heard h c) c.statement) ≡ fixed_length (with_heard h c)
more-fixed h c kept_to fresh e = ap (λ n. after_one n (place_kept (with_heard h c) c.statement)) e ∙ same-after (fixed_length h)
    (place_kept (with_heard h c) c.statement) ∙ sym (fixed_length-grown h c fresh)

-- ---- of an empty pool

nobody : (v : View) (st : Statement) (ms : List ℕ) → filter (says (empty_pool v) st) ms ≡ []
nobody v st [] = refl
nobody v st (m ∷ ms) = nobody v st ms

pub empty-counted : (v : View) (p : Prefix) (h : Pool) (s : UpdateSet) → p ≡ record { view = v; batches = [] } → h ≡ empty_pool v
    → ((u : Update) → has_update s u ≡ false) → (ends : List ℕ) → AreInitsEnds h ends → AreCounted h p 0 s ends
unfolding placed
empty-counted v p h s prefix pool none ends inits = record {
  places = prefix ∙ ap placed_in (sym pool);
  fixed = ap fixed_length (sym pool);
  updates = λ u.
      none u ∙ sym (ap (λ (ms : List ℕ). nat_lt (faulty (length v.members)) (length ms))
      (nobody v (Notify v.number u) v.members) ∙ le-ltb (faulty (length v.members)) 0 (omega arith))
      ∙ ap (λ h. is_notified h u) (sym pool);
  inits = inits;
}
