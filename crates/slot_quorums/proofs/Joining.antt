-- A process more in a set of those who pass a test.
use Rattle.std.proofs.Common.{◌≡◌, inl, inr, ℕ, suc, List, [], ◌∷◌, Bool, true, false, refl, sym, ap, ◌∙◌, arith}
use Rattle.std.specs.Prelude.{if◌then◌else◌, ◌==◌, ◌||◌, nat_lt, filter, ◌≢◌}
use Rattle.std.proofs.lemmas.Bool.{eqb-true, eqb-false, eq-eqb, ne_eqb, ltb-true, ltb-false, lt-ltb}
use Rattle.byte_defs.specs.Members.{has}
use Rattle.byte_defs.specs.Orders.{put, sorted}
use Rattle.rp_base.specs.Pids.{put_once}
use Rattle.claim_index.proofs.Below.{Mem, filter-mem, Pairs, mem-slice_get, mem-sorted, by_number, below-by_number}
use Rattle.claim_index.proofs.Signers.{put_once-new}

-- two different numbers are put into a list in any order
module _ (m p : ℕ) (other : m ≡ p → ⊥) where
  put-on : (x : ℕ) (xs : List ℕ) → put by_number m (x ∷ xs) ≡ (if nat_lt m x then m ∷ x ∷ xs else x ∷ put by_number m xs)
  put-on x xs = ap (λ (b : Bool). if b then m ∷ x ∷ xs else x ∷ put by_number m xs) (below-by_number m x)

  put-below : (x : ℕ) (xs : List ℕ) → nat_lt m x ≡ true → put by_number m (x ∷ xs) ≡ m ∷ x ∷ xs
  put-below x xs e = put-on x xs ∙ ap (λ (b : Bool). if b then m ∷ x ∷ xs else x ∷ put by_number m xs) e

  put-above : (x : ℕ) (xs : List ℕ) → nat_lt m x ≡ false → put by_number m (x ∷ xs) ≡ x ∷ put by_number m xs
  put-above x xs e = put-on x xs ∙ ap (λ (b : Bool). if b then m ∷ x ∷ xs else x ∷ put by_number m xs) e

  once-above : (x : ℕ) (xs : List ℕ) → nat_lt x p ≡ true → put_once p (x ∷ xs) ≡ x ∷ put_once p xs
  once-above x xs e = ap (λ (b : Bool). if b then x ∷ put_once p xs else if x == p then x ∷ xs else p ∷ x ∷ xs) e

  once-same : (x : ℕ) (xs : List ℕ) → nat_lt x p ≡ false → (x == p) ≡ true → put_once p (x ∷ xs) ≡ x ∷ xs
  once-same x xs e f = λ i. if e i then x ∷ put_once p xs else if f i then x ∷ xs else p ∷ x ∷ xs

  once-below : (x : ℕ) (xs : List ℕ) → nat_lt x p ≡ false → (x == p) ≡ false → put_once p (x ∷ xs) ≡ p ∷ x ∷ xs
  once-below x xs e f = λ i. if e i then x ∷ put_once p xs else if f i then x ∷ xs else p ∷ x ∷ xs

  pub put-both : (xs : List ℕ) → put by_number m (put_once p xs) ≡ put_once p (put by_number m xs)
  put-both [] = go (nat_lt m p) refl
    where
      go : (d : Bool) → nat_lt m p ≡ d → put by_number m (p ∷ []) ≡ put_once p (m ∷ [])
      go true e = put-below p [] e ∙ sym (once-above m [] e)
      go false e = put-above p [] e ∙ sym (once-below m [] e (ne_eqb m p other))
  put-both (x ∷ xs) = go (nat_lt x p) refl (x == p) refl (nat_lt m x) refl (nat_lt m p) refl (put-both xs)
    where
      low : nat_lt x p ≡ true → nat_lt m x ≡ true → nat_lt m p ≡ true
      low b a = let one = ltb-true x p b in let two = ltb-true m x a in lt-ltb m p (omega (arith, one, two))

      low' : (x == p) ≡ true → nat_lt m x ≡ true → nat_lt m p ≡ true
      low' b a = let one = eqb-true x p b in let two = ltb-true m x a in lt-ltb m p (omega (arith, one, two))

      low2 : nat_lt x p ≡ false → nat_lt m p ≡ true → nat_lt m x ≡ true
      low2 b a = let one = ltb-false x p b in let two = ltb-true m p a in lt-ltb m x (omega (arith, one, two))

      go : (b : Bool) → nat_lt x p ≡ b → (e : Bool) → (x == p) ≡ e → (a : Bool) → nat_lt m x ≡ a → (d : Bool) → nat_lt m p ≡ d
          → put by_number m (put_once p xs) ≡ put_once p (put by_number m xs)
          → put by_number m (put_once p (x ∷ xs)) ≡ put_once p (put by_number m (x ∷ xs))
      go true eb e ee true ea d ed rest =
          ap (put by_number m) (once-above x xs eb) ∙ put-below x (put_once p xs) ea
          ∙ sym (ap (put_once p) (put-below x xs ea) ∙ once-above m (x ∷ xs) (low eb ea) ∙ ap (λ l. m ∷ l) (once-above x xs eb))
      go true eb e ee false ea d ed rest =
          ap (put by_number m) (once-above x xs eb) ∙ put-above x (put_once p xs) ea ∙ ap (λ l. x ∷ l) rest
          ∙ sym (ap (put_once p) (put-above x xs ea) ∙ once-above x (put by_number m xs) eb)
      go false eb true ee true ea d ed rest =
          ap (put by_number m) (once-same x xs eb ee) ∙ put-below x xs ea
          ∙ sym (ap (put_once p) (put-below x xs ea) ∙ once-above m (x ∷ xs) (low' ee ea) ∙ ap (λ l. m ∷ l) (once-same x xs eb ee))
      go false eb true ee false ea d ed rest =
          ap (put by_number m) (once-same x xs eb ee) ∙ put-above x xs ea
          ∙ sym (ap (put_once p) (put-above x xs ea) ∙ once-same x (put by_number m xs) eb ee)
      go false eb false ee a ea true ed rest =
          ap (put by_number m) (once-below x xs eb ee) ∙ put-below p (x ∷ xs) ed
          ∙ sym (ap (put_once p) (put-below x xs (low2 eb ed)) ∙ once-above m (x ∷ xs) ed ∙ ap (λ l. m ∷ l) (once-below x xs eb ee))
      go false eb false ee true ea false ed rest =
          ap (put by_number m) (once-below x xs eb ee) ∙ put-above p (x ∷ xs) ed ∙ ap (λ l. p ∷ l) (put-below x xs ea)
          ∙ sym (ap (put_once p) (put-below x xs ea) ∙ once-below m (x ∷ xs) ed (ne_eqb m p other))
      go false eb false ee false ea false ed rest =
          ap (put by_number m) (once-below x xs eb ee) ∙ put-above p (x ∷ xs) ed ∙ ap (λ l. p ∷ l) (put-above x xs ea)
          ∙ sym (ap (put_once p) (put-above x xs ea) ∙ once-below x (put by_number m xs) eb ee)

-- the test holds of the process now, which it didn't, and of each other as it did
module _ (p : ℕ) (t u : ℕ → Bool) (before : t p ≡ false) (now : (m : ℕ) → u m ≡ ((p == m) || t m)) where
  others-as-before : (m : ℕ) → (p == m) ≡ false → u m ≡ t m
  others-as-before m e = now m ∙ ap (λ b. b || t m) e

  none-here : (ms : List ℕ) → has ms p ≡ false → sorted by_number (filter u ms) ≡ sorted by_number (filter t ms)
  none-here [] e = refl
  none-here (m ∷ ms) e = go (m == p) refl e (none-here ms)
    where
      go : (b : Bool) → (m == p) ≡ b → (b || has ms p) ≡ false
          → (has ms p ≡ false → sorted by_number (filter u ms) ≡ sorted by_number (filter t ms))
          → sorted by_number (filter u (m ∷ ms)) ≡ sorted by_number (filter t (m ∷ ms))
      go true f e rest = absurd cc
      go false f e rest =
          let other : (p == m) ≡ false = ne_eqb p m (λ same. eqb-false m p f (sym same)) in
          ap (λ b. sorted by_number (if b then m ∷ filter u ms else filter u ms)) (others-as-before m other) ∙ step (t m) (rest e)
        where
          step : (b : Bool) → sorted by_number (filter u ms) ≡ sorted by_number (filter t ms)
              → sorted by_number (if b then m ∷ filter u ms else filter u ms)
              ≡ sorted by_number (if b then m ∷ filter t ms else filter t ms)
          step true rest = ap (put by_number m) rest
          step false rest = rest

  new : (ms : List ℕ) → put by_number p (sorted by_number (filter t ms)) ≡ put_once p (sorted by_number (filter t ms))
  new ms = sym (put_once-new p (sorted by_number (filter t ms)) (λ q there same.
      let passes : t q ≡ true = (filter-mem t ms q (mem-sorted by_number (filter t ms) q there)).1 in
      let both : true ≡ false = sym passes ∙ ap t same ∙ before in cc))

  pub with-one : (ms : List ℕ) → Pairs (λ m n. m ≢ n) ms
      → sorted by_number (filter u ms) ≡ (if has ms p then put_once p (sorted by_number (filter t ms)) else sorted by_number (filter t ms))
  with-one [] distinct = refl
  with-one (m ∷ ms) distinct = go (m == p) refl
      (with-one ms (λ i j a b lt at_i at_j. distinct (suc i) (suc j) a b (omega (arith, lt)) at_i at_j))
    where
      absent : m ≡ p → (b : Bool) → has ms p ≡ b → b ≡ false
      absent same true e = absurd (distinct-from (mem-has ms e))
        where
          mem-has : (ms : List ℕ) → has ms p ≡ true → Mem p ms
          mem-has [] e = absurd cc
          mem-has (q ∷ qs) e = at (q == p) refl e (mem-has qs)
            where
              at : (b : Bool) → (q == p) ≡ b → (b || has qs p) ≡ true → (has qs p ≡ true → Mem p qs) → Mem p (q ∷ qs)
              at true f e rest = inl (eqb-true q p f)
              at false f e rest = inr (rest e)

          distinct-from : Mem p ms → ⊥
          distinct-from there = let place = mem-slice_get ms p there in distinct 0 (suc place.0) m p (omega arith) refl place.1 same
      absent same false e = refl

      go : (b : Bool) → (m == p) ≡ b
          → sorted by_number (filter u ms)
          ≡ (if has ms p then put_once p (sorted by_number (filter t ms)) else sorted by_number (filter t ms))
          → sorted by_number (filter u (m ∷ ms))
          ≡ (if (b || has ms p) then put_once p (sorted by_number (filter t (m ∷ ms))) else sorted by_number (filter t (m ∷ ms)))
      go true f rest =
          let same : m ≡ p = eqb-true m p f in
          let passes : u m ≡ true = now m ∙ ap (λ b. b || t m) (eq-eqb p m (sym same)) in
          let not : t m ≡ false = ap t same ∙ before in
          ap (λ (b : Bool). sorted by_number (if b then m ∷ filter u ms else filter u ms)) passes
          ∙ ap (put by_number m) (none-here ms (absent same (has ms p) refl))
          ∙ ap (λ q. put by_number q (sorted by_number (filter t ms))) same
          ∙ new ms
          ∙ ap (λ (b : Bool). put_once p (sorted by_number (if b then m ∷ filter t ms else filter t ms))) (sym not)
      go false f rest =
          let other : m ≡ p → ⊥ = eqb-false m p f in
          ap (λ (b : Bool). sorted by_number (if b then m ∷ filter u ms else filter u ms))
          (others-as-before m (ne_eqb p m (λ same. other (sym same)))) ∙ step other (t m) (has ms p) rest
        where
          step : (m ≡ p → ⊥) → (b c : Bool)
              → sorted by_number (filter u ms) ≡ (if c then put_once p (sorted by_number (filter t ms)) else sorted by_number (filter t ms))
              → sorted by_number (if b then m ∷ filter u ms else filter u ms)
              ≡ (if c then put_once p (sorted by_number (if b then m ∷ filter t ms else filter t ms))
              else sorted by_number (if b then m ∷ filter t ms else filter t ms))
          step other true true rest = ap (put by_number m) rest ∙ put-both m p other (sorted by_number (filter t ms))
          step other true false rest = ap (put by_number m) rest
          step other false true rest = rest
          step other false false rest = rest
