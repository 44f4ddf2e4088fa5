-- Those of the listed processes that pass a test, found one after another and put into a set.
use Rattle.std.proofs.Common.{◌≡◌, ℕ, ◌<◌, List, [], ◌∷◌, ◌++◌, length, map, Bool, true, false, Some, refl, sym, ap, ◌∙◌, subst, arith, append_assoc, inl, inr}
use Rattle.std.specs.Prelude.{◌==◌, cond, filter, if◌then◌else◌, slice_get}
use Rattle.std.proofs.lemmas.Bool.{lt-ltb}
use Rattle.std.proofs.lemmas.List.{append-nil}
use Rattle.std.proofs.lemmas.List.Elements.{filter-append}
use Rattle.pool_laws.proofs.Members.{Mem, filter-mem}
use Rattle.pool_laws.proofs.Places.{all-pairs, get-map, mem-slice_get, slice_get-front, slice_get-last, slice_get-length}
use Rattle.rp_base.specs.Pids.{put_once}
use Rattle.rp_base.specs.Rosters.{IsRising}

-- ---- a number above all others

put-last : (q : ℕ) (xs : List ℕ) → ((x : ℕ) → Mem x xs → x < q) → put_once q xs ≡ xs ++ q ∷ []
put-last q [] above = refl
put-last q (x ∷ xs) above =
    ap (λ b. if b then x ∷ put_once q xs else if x == q then x ∷ xs else q ∷ x ∷ xs) (lt-ltb x q (above x (inl refl)))
    ∙ ap (λ ys. x ∷ ys) (put-last q xs (λ y m. above y (inr m)))

module _ (keys : List (ℕ × List ℕ)) (rising : IsRising keys) where
  numbers : List ℕ
  numbers = map (λ (k : ℕ × List ℕ). k.0) keys

  -- what comes later is above
  later-above : (done : List ℕ) (q : ℕ) (left : List ℕ) → done ++ q ∷ left ≡ map (λ (k : ℕ × List ℕ). k.0) keys → (x : ℕ) → Mem x done → x < q
  later-above done q left whole x m =
      let i = mem-slice_get done x m in
      let before : slice_get (done ++ q ∷ left) i.0 ≡ Some x = slice_get-front done (q ∷ left) i.0 x i.1 in
      let seam = slice_get-front (done ++ q ∷ []) left (length done) q (slice_get-last done q (length done) refl) in
      let at : slice_get (done ++ q ∷ left) (length done) ≡ Some q = subst
      (λ ys. slice_get ys (length done) ≡ Some q) (append_assoc done (q ∷ []) left) seam in
      let a = get-map (λ (k : ℕ × List ℕ). k.0) keys i.0 x (subst (λ ys. slice_get ys i.0 ≡ Some x) whole before) in
      let b = get-map (λ (k : ℕ × List ℕ). k.0) keys (length done) q (subst (λ ys. slice_get ys (length done) ≡ Some q) whole at) in
      let lt = all-pairs (λ (k l : ℕ × List ℕ). k.0 < l.0) keys rising i.0 (length done) a.0 b.0
      (slice_get-length done i.0 x i.1) a.1 b.1 in
      omega (arith, lt, a.2, b.2)

-- ---- the search

-- found so far, and left
pub record Sought (p : ℕ → Bool) (keys : List (ℕ × List ℕ)) (found left : List ℕ) : Type 0 where
  pub done : List ℕ
  pub whole : done ++ left ≡ map (λ (k : ℕ × List ℕ). k.0) keys
  pub is : found ≡ filter p done

module _ (p : ℕ → Bool) (keys : List (ℕ × List ℕ)) where
  pub sought-none : (found left : List ℕ) → found ≡ [] → left ≡ map (λ (k : ℕ × List ℕ). k.0) keys → Sought p keys found left
  sought-none found left none all = record { done = []; whole = all; is = none }

  further : (done : List ℕ) (q : ℕ) (left rest : List ℕ) → left ≡ q ∷ rest → done ++ left ≡ map (λ (k : ℕ × List ℕ). k.0) keys
      → (done ++ q ∷ []) ++ rest ≡ map (λ (k : ℕ × List ℕ). k.0) keys
  further done q left rest next whole = append_assoc done (q ∷ []) rest ∙ ap (λ ys. done ++ ys) (sym next) ∙ whole

  pub sought-in : (found left rest : List ℕ) (q : ℕ) → Sought p keys found left → left ≡ q ∷ rest → IsRising keys → p q ≡ true
      → Sought p keys (put_once q found) rest
  sought-in found left rest q so next rising yes' = record {
    done = so.done ++ q ∷ [];
    whole = further so.done q left rest next so.whole;
    is =
        ap (put_once q) so.is
        ∙ put-last q (filter p so.done) (λ x m. later-above keys rising so.done q rest (ap (λ ys. so.done ++ ys) (sym next) ∙ so.whole)
        x (filter-mem p so.done x m).0)
        ∙ sym (filter-append p so.done (q ∷ []) ∙ ap (λ b. filter p so.done ++ cond b (q ∷ []) []) yes');
  }

  pub sought-not : (found left rest : List ℕ) (q : ℕ) → Sought p keys found left → left ≡ q ∷ rest → p q ≡ false
      → Sought p keys found rest
  sought-not found left rest q so next no' = record {
    done = so.done ++ q ∷ [];
    whole = further so.done q left rest next so.whole;
    is = so.is ∙ sym (filter-append p so.done (q ∷ []) ∙ ap (λ b. filter p so.done ++ cond b (q ∷ []) []) no'
        ∙ append-nil (filter p so.done));
  }

  pub sought-all : (found left : List ℕ) → Sought p keys found left → left ≡ [] → found ≡ filter p (map (λ (k : ℕ × List ℕ). k.0) keys)
  sought-all found left so none =
      so.is ∙ ap (filter p) (sym (append-nil so.done) ∙ ap (λ ys. so.done ++ ys) (sym none) ∙ so.whole)

-- nobody passes
pub none-pass : {A : Type 0} (p : A → Bool) (xs : List A) → ((x : A) → p x ≡ false) → filter p xs ≡ []
none-pass p [] nay = refl
none-pass p (x ∷ xs) nay = ap (λ b. cond b (x ∷ filter p xs) (filter p xs)) (nay x) ∙ none-pass p xs nay
