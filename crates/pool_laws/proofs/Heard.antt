-- What a pool's claims show: who said it, and what stands certified.
use Rattle.std.proofs.Common.{◌≡◌, ◌⊎◌, inl, inr, ℕ, ◌+◌, ◌-◌, ◌/◌, ◌<◌, ◌≤◌, max, List, [], ◌∷◌, map, length, Some, None, Bool, true, false, refl, sym, ap, ◌∙◌, subst, arith, slice_get, Option, suc, zero}
use Rattle.std.specs.Prelude.{if◌then◌else◌, filter, fold, not, nat_lt, ◌==◌, is_some, unwrap_or, ◌&&◌}
use Rattle.std.proofs.lemmas.Bool.{eqb-true, leb-true, ltb-true, ltb-false}
use Rattle.group_defs.specs.Below.{first_that_holds, Value, Message, Batch, Statement, Echo, Place, Keep, Ready, Slot, EchoAt, PlaceAt, ReadyAt, Claim, slot_of, view_of, batch_of, payload_of, value_of, same_slot, same_statement}
use Rattle.group_defs.specs.Views.{is_member, quorum}
use Rattle.group_defs.specs.Process.{Setting, Pool, Process}
use Rattle.group_defs.specs.Certified.{claim_on, heard_on, says, backers, number_of_members, is_certified, certified_on, place_at, payload_at, value_at, place_kept, placed_from, placed}
use Rattle.group_defs.specs.Hearing.{Old, Early, Stranger, OutOfWindow, Known, Unsigned, Conflict, Heard, verdict, is_valid, is_strange, is_beyond}
use Rattle.group_defs.specs.Due.{rank_says}
use Rattle.pool_laws.proofs.Members.{Mem, filter-mem, find-is, list_any-mem, mem-some, some-mem}
use Rattle.pool_laws.proofs.Slots.{echo-is, place-is, ready-is, same_slot-is, same_statement-is}
use Rattle.pool_laws.proofs.Tests.{and-first, and-second, map-some, not-false, some-and, some-same, then-some}

-- ---- who said it

-- a claim that was heard of this signer
abbrev pub Said : Pool → ℕ → Statement → Type 0
Said h signer st = (c : Claim) × Mem c h.heard × (c.signer ≡ signer) × (c.statement ≡ st)

pub heard_on-said : (h : Pool) (a : ℕ) (slot : Slot) (st : Statement) → heard_on h a slot ≡ Some st → Said h a st × (slot_of st ≡ slot)
heard_on-said h a slot st e =
    let c = map-some (λ (c : Claim). c.statement) (claim_on h.heard a slot) st e in
    let found = find-is (λ c. (c.signer == a) && same_slot (slot_of c.statement) slot) h.heard c.0 c.1 in (
      (c.0, found.0, eqb-true _ _ (and-first _ _ found.1), c.2),
      sym (ap slot_of c.2) ∙ same_slot-is (slot_of c.0.statement) slot (and-second _ _ found.1),
    )

pub heard-says : (h : Pool) (st : Statement) (a : ℕ) → says h st a ≡ true → Said h a st
heard-says h st a e =
    let said = some-and (heard_on h a (slot_of st)) (same_statement st) e in
    let c = (heard_on-said h a (slot_of st) said.0 said.1).0 in
    (c.0, c.1, c.2, c.3 ∙ sym (same_statement-is st said.0 said.2))

pub rank-says : (p : Process) (r : ℕ) (st : Statement) → rank_says p r st ≡ true → (a : ℕ) × Said p.pool a st
rank-says p r st e = let at = some-and (slice_get p.pool.view.members r) (says p.pool st) e in (at.0, heard-says p.pool st at.0 at.2)

-- a member backs what is certified
pub certified-heard : (h : Pool) (st : Statement) (me : ℕ) → is_member h.view me ≡ true → is_certified h st ≡ true → (a : ℕ) × Said h a st
certified-heard h st me member certified =
    let enough = leb-true (quorum (number_of_members h)) (length (backers h st)) certified in
    let someone = list_any-mem (λ q. q == me) h.view.members member in
    let backer = some-mem (backers h st)
    (above (number_of_members h) (length (backers h st)) (mem-some h.view.members someone.0 someone.1) enough) in
    (backer.0, heard-says h st backer.0 (filter-mem (says h st) h.view.members backer.0 backer.1).1)
  where
    above : (n k : ℕ) → 0 < n → n - (n - 1) / 3 ≤ k → 0 < k
    above n k pos le = omega (arith, pos, le)

-- ---- what stands certified

pub certified_on-is : (h : Pool) (slot : Slot) (st : Statement) → certified_on h slot ≡ Some st
    → (is_certified h st ≡ true) × (slot_of st ≡ slot)
certified_on-is h slot st e =
    let found = find-is (is_certified h) (filter (λ st. same_slot (slot_of st) slot) (map (λ (c : Claim). c.statement) h.heard)) st e in
    let at = filter-mem (λ st. same_slot (slot_of st) slot) (map (λ (c : Claim). c.statement) h.heard) st found.0 in
    (found.1, same_slot-is (slot_of st) slot at.1)

pub place-certified : (h : Pool) (k : ℕ) (b : Batch) → place_at h k ≡ Some b → is_certified h (Place h.view.number k b) ≡ true
place-certified h k b e =
    let st = then-some batch_of (certified_on h (PlaceAt h.view.number k)) b e in
    let is = certified_on-is h (PlaceAt h.view.number k) st.0 st.1 in
    subst (λ st. is_certified h st ≡ true) (place-is st.0 h.view.number k b st.2 is.1) is.0

pub payload-certified : (h : Pool) (m : Message) (b : List ℕ) → payload_at h m ≡ Some b → is_certified h (Echo h.view.number m b) ≡ true
payload-certified h m b e =
    let st = then-some payload_of (certified_on h (EchoAt h.view.number m)) b e in
    let is = certified_on-is h (EchoAt h.view.number m) st.0 st.1 in
    subst (λ st. is_certified h st ≡ true) (echo-is st.0 h.view.number m b st.2 is.1) is.0

pub value-certified : (h : Pool) (r : ℕ) (w : Value) → value_at h (ReadyAt h.view.number r) ≡ Some w
    → is_certified h (Ready h.view.number r w) ≡ true
value-certified h r w e =
    let st = then-some value_of (certified_on h (ReadyAt h.view.number r)) w e in
    let is = certified_on-is h (ReadyAt h.view.number r) st.0 st.1 in
    subst (λ st. is_certified h st ≡ true) (ready-is st.0 h.view.number r w st.2 is.1) is.0

pub fold-attained : (ks : List ℕ) (most : ℕ)
    → (fold (λ most k. max most (k + 1)) most ks ≡ most) ⊎ ((k : ℕ) × Mem k ks × (fold (λ most k. max most (k + 1)) most ks ≡ k + 1))
fold-attained [] most = inl refl
fold-attained (k ∷ ks) most = go (fold-attained ks (max most (k + 1)))
  where
    pick : (e : fold (λ most k. max most (k + 1)) (max most (k + 1)) ks ≡ max most (k + 1)) → (b : Bool) → nat_lt most (k + 1) ≡ b
        → (fold (λ most k. max most (k + 1)) (max most (k + 1)) ks ≡ most)
        ⊎ ((j : ℕ) × Mem j (k ∷ ks) × (fold (λ most k. max most (k + 1)) (max most (k + 1)) ks ≡ j + 1))
    pick e true f = inr (k, inl refl, (let lt = ltb-true most (k + 1) f in omega (arith, lt, e)))
    pick e false f = inl (let ge = ltb-false most (k + 1) f in omega (arith, ge, e))

    go : (fold (λ most k. max most (k + 1)) (max most (k + 1)) ks ≡ max most (k + 1))
        ⊎ ((j : ℕ) × Mem j ks × (fold (λ most k. max most (k + 1)) (max most (k + 1)) ks ≡ j + 1))
        → (fold (λ most k. max most (k + 1)) (max most (k + 1)) ks ≡ most)
        ⊎ ((j : ℕ) × Mem j (k ∷ ks) × (fold (λ most k. max most (k + 1)) (max most (k + 1)) ks ≡ j + 1))
    go (inl e) = pick e (nat_lt most (k + 1)) refl
    go (inr found) = inr (found.0, inr found.1, found.2)

pub kept-is : (h : Pool) (st : Statement) (k : ℕ) → place_kept h st ≡ Some k → (b : Batch) × (is_certified h (Keep (view_of st) k b) ≡ true)
kept-is h (Keep x j c) k e = go (is_certified h (Keep x j c)) refl e
  where
    go : (b : Bool) → is_certified h (Keep x j c) ≡ b → (if b then Some j else None) ≡ Some k
        → (b : Batch) × (is_certified h (Keep x k b) ≡ true)
    go true f e = (c, subst (λ j. is_certified h (Keep x j c) ≡ true) (some-same j k e) f)
    go false f e = absurd cc
kept-is h _ k e = absurd cc

placed-place : (h : Pool) (more k j : ℕ) (b : Batch) → slice_get (placed_from h more k) j ≡ Some b → place_at h (k + j) ≡ Some b
placed-place h zero k j b e = absurd cc
placed-place h (suc more) k j b e = go (place_at h k) refl j e (placed-place h more (k + 1))
  where
    go : (o : Option Batch) → place_at h k ≡ o → (j : ℕ)
        → (let it : List Batch = elim o [ None ↦ [] | Some b ↦ b ∷ placed_from h more (k + 1) ] in slice_get it j ≡ Some b)
        → ((j : ℕ) (b : Batch) → slice_get (placed_from h more (k + 1)) j ≡ Some b → place_at h ((k + 1) + j) ≡ Some b)
        → place_at h (k + j) ≡ Some b
    go None f j e rest = absurd cc
    go (Some c) f zero e rest = let same : k + 0 ≡ k = omega arith in ap (place_at h) same ∙ f ∙ e
    go (Some c) f (suc j) e rest = let same : k + suc j ≡ (k + 1) + j = omega arith in ap (place_at h) same ∙ rest j b e

pub placed-at : (h : Pool) (j : ℕ) (b : Batch) → slice_get (placed h) j ≡ Some b → place_at h j ≡ Some b
unfolding placed
placed-at h j b e = let same : 0 + j ≡ j = omega arith in subst (λ j. place_at h j ≡ Some b) same (placed-place h 1024 0 j b e)

-- ---- what is heard is valid, and of the view

-- of the seven tests each one failed
heard-tests : (old early strange beyond known unsigned conflict : Bool)
    → unwrap_or (first_that_holds ((old, Old) ∷ (early, Early) ∷ (strange, Stranger) ∷ (beyond, OutOfWindow) ∷ (known, Known)
    ∷ (unsigned, Unsigned) ∷ (conflict, Conflict) ∷ [])) Heard ≡ Heard
    → (old ≡ false) × (early ≡ false) × (strange ≡ false) × (unsigned ≡ false)
heard-tests true early strange beyond known unsigned conflict e = absurd cc
heard-tests false true strange beyond known unsigned conflict e = absurd cc
heard-tests false false true beyond known unsigned conflict e = absurd cc
heard-tests false false false true known unsigned conflict e = absurd cc
heard-tests false false false false true unsigned conflict e = absurd cc
heard-tests false false false false false true conflict e = absurd cc
heard-tests false false false false false false conflict e = (refl, refl, refl, refl)

module _ (s : Setting) (p : Process) (c : Claim) (heard : verdict s p c ≡ Heard) where
  abbrev pub Passed : Type 0
  Passed = (nat_lt (view_of c.statement) p.pool.view.number ≡ false) × (nat_lt p.pool.view.number (view_of c.statement) ≡ false)
      × (is_strange p c ≡ false) × (not (is_valid s c) ≡ false)

  -- four of the tests, that the claim has passed
  pub passed : Passed
  passed = heard-tests (nat_lt (view_of c.statement) p.pool.view.number) (nat_lt p.pool.view.number (view_of c.statement)) (is_strange p c)
      (is_beyond p c.signer c.statement) (says p.pool c.statement c.signer) (not (is_valid s c))
      (is_some (heard_on p.pool c.signer (slot_of c.statement))) heard

  pub verdict-valid : is_valid s c ≡ true
  verdict-valid = not-false (is_valid s c) passed.3

  pub verdict-view : view_of c.statement ≡ p.pool.view.number
  verdict-view =
      let le = ltb-false (view_of c.statement) p.pool.view.number passed.0 in
      let ge = ltb-false p.pool.view.number (view_of c.statement) passed.1 in
      omega (arith, le, ge)
