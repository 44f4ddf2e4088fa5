-- The set of those who say it, one by one from the last member on, is the sorted list of them.
use Rattle.std.proofs.Common.{◌≡◌, inl, inr, ℕ, suc, ◌+◌, ◌<◌, List, [], ◌∷◌, length, drop, Some, Bool, true, false, refl, sym, ap, ◌∙◌, arith}
use Rattle.std.specs.Prelude.{if◌then◌else◌, ◌==◌, nat_lt, filter, slice_index_or, AllPairs, ◌≢◌}
use Rattle.std.proofs.Math.Seq.{drop-cons}
use Rattle.std.proofs.lemmas.Bool.{eqb-true, eqb-false, ltb-true, ltb-false}
use Rattle.byte_defs.specs.Orders.{put, sorted}
use Rattle.rp_base.specs.Pids.{put_once}
use Rattle.pool_laws.proofs.Members.{Mem, filter-mem}
use Rattle.pool_laws.proofs.Places.{mem-slice_get, get-drop, slice_get-index, all-pairs}
use Rattle.pool_laws.proofs.Sorting.{mem-sorted, by_number, below-by_number}

pub put_once-new : (p : ℕ) (qs : List ℕ) → ((q : ℕ) → Mem q qs → q ≡ p → ⊥) → put_once p qs ≡ put by_number p qs
put_once-new p [] new = refl
put_once-new p (q ∷ qs) new =
    go (nat_lt q p) refl (q == p) refl (nat_lt p q) refl (put_once-new p qs (λ r m. new r (inr m)))
    ∙ ap (λ (b : Bool). if b then p ∷ q ∷ qs else q ∷ put by_number p qs) (sym (below-by_number p q))
  where
    go : (a : Bool) → nat_lt q p ≡ a → (b : Bool) → (q == p) ≡ b → (c : Bool) → nat_lt p q ≡ c → put_once p qs ≡ put by_number p qs
        → (if a then q ∷ put_once p qs else if b then q ∷ qs else p ∷ q ∷ qs) ≡ (if c then p ∷ q ∷ qs else q ∷ put by_number p qs)
    go true e b f true g rest = absurd (let lt = ltb-true q p e in let gt = ltb-true p q g in omega (arith, lt, gt))
    go true e b f false g rest = ap (λ qs. q ∷ qs) rest
    go false e true f c g rest = absurd (new q (inl refl) (eqb-true q p f))
    go false e false f true g rest = refl
    go false e false f false g rest = absurd
        (let ge = ltb-false q p e in let le = ltb-false p q g in let other = eqb-false q p f in other (omega (arith, ge, le)))

module _ (test : ℕ → Bool) (members : List ℕ) (distinct : AllPairs (λ m n. m ≢ n) members) where
  abbrev pub from : ℕ → List ℕ
  from k = sorted by_number (filter test (drop k members))

  -- of those behind place k none is the member there
  apart : (k : ℕ) (m q : ℕ) → k < length members → slice_index_or members k m ≡ m → Mem q (from (suc k)) → q ≡ m → ⊥
  apart k m q lt at there same =
      let behind = mem-slice_get (drop (suc k) members) q
      (filter-mem test (drop (suc k) members) q (mem-sorted by_number (filter test (drop (suc k) members)) q there)).0 in
      let later = get-drop (suc k) members behind.0 (suc k + behind.0) q refl behind.1 in
      let here = slice_get-index members k m lt ∙ ap Some at in
      all-pairs (λ m n. m ≢ n) members distinct k (suc k + behind.0) m q (omega arith) here later (sym same)

  pub one-more : (k m : ℕ) → k < length members → slice_index_or members k m ≡ m → test m ≡ true → put_once m (from (suc k)) ≡ from k
  one-more k m lt at e =
      put_once-new m (from (suc k)) (λ q there same. apart k m q lt at there same)
      ∙ ap (sorted by_number) (sym (ap (filter test)
      (drop-cons members k m lt ∙ ap (λ x. x ∷ drop (suc k) members) at) ∙ ap
      (λ (b : Bool). if b then m ∷ filter test (drop (suc k) members) else filter test (drop (suc k) members)) e))

  pub none-more : (k m : ℕ) → k < length members → slice_index_or members k m ≡ m → test m ≡ false → from (suc k) ≡ from k
  none-more k m lt at e =
      ap (sorted by_number) (sym (ap (filter test)
      (drop-cons members k m lt ∙ ap (λ x. x ∷ drop (suc k) members) at) ∙ ap
      (λ (b : Bool). if b then m ∷ filter test (drop (suc k) members) else filter test (drop (suc k) members)) e))
