-- Those who have a second claim are the convicted.
use Rattle.std.proofs.Common.{◌≡◌, inl, inr, ℕ, zero, suc, ◌<◌, List, [], ◌∷◌, ◌++◌, map, Option, Some, None, Bool, true, false, refl, sym, ap, ◌∙◌, subst, arith}
use Rattle.std.specs.Prelude.{if◌then◌else◌, ◌==◌, ◌||◌, cond, filter, find, fold, nat_lt, option_map, is_some}
use Rattle.std.specs.List.{list_any}
use Rattle.std.proofs.lemmas.Bool.{eqb-true, eq-eqb, lt-ltb, ltb-true}
use Rattle.message_defs.specs.Statements.{Claim}
use Rattle.rp_base.specs.Pids.{put_once}
use Rattle.rp_base.specs.Rosters.{IsRising}
use Rattle.group_defs.specs.Process.{Setting, keyed}
use Rattle.pool_laws.proofs.Members.{Mem, Contains-mem, filter-mem, mem-Contains, mem-behind, mem-find}
use Rattle.conviction_defs.specs.Convictions.{Convicts, claims_by, convicted, is_convicted, pair_behind}
use Rattle.conviction_laws.proofs.Pairs.{pair-none, pair-some}
use Rattle.conviction_laws.proofs.Convicted.{by-convicts, convicts-by, has-key, of-signer, signer-of}
use Rattle.claim_firsts.specs.Tables.{Table}
use Rattle.claim_firsts.specs.Seen.{Saw, second_of}
use Rattle.claim_firsts.proofs.Finding.{any-found, any-not-found}

-- ---- rising lists

-- each number is below those after it
abbrev Rises : List ℕ → Type 0
Rises [] = Unit {0}
Rises (x ∷ xs) = ((y : ℕ) → Mem y xs → x < y) × Rises xs

numbers-rise : (keys : List (ℕ × List ℕ)) → IsRising keys → Rises (map (λ (k : ℕ × List ℕ). k.0) keys)
numbers-rise [] rising = tt
numbers-rise (k ∷ ks) rising = (above, numbers-rise ks (λ i j d lt within. rising (suc i) (suc j) d (omega (arith, lt)) (omega (arith, within))))
  where
    above : (y : ℕ) → Mem y (map (λ (k : ℕ × List ℕ). k.0) ks) → k.0 < y
    above y m = go ks (λ l n. later l n) m
      where
        later : (l : ℕ × List ℕ) → Mem l ks → k.0 < l.0
        later l n =
            let at = mem-Contains ks l n in
            let lt = rising zero (suc at.0) l (omega arith) (let within = at.1 in omega (arith, within)) in
            subst (λ (x : ℕ × List ℕ). k.0 < x.0) at.2 lt

        go : (ls : List (ℕ × List ℕ)) → ((l : ℕ × List ℕ) → Mem l ls → k.0 < l.0) → Mem y (map (λ (k : ℕ × List ℕ). k.0) ls) → k.0 < y
        go [] each m = absurd m
        go (l ∷ ls) each (inl e) = subst (λ n. k.0 < n) e (each l (inl refl))
        go (l ∷ ls) each (inr m) = go ls (λ x n. each x (inr n)) m

same-filter : (f g : ℕ → Bool) (xs : List ℕ) → ((x : ℕ) → Mem x xs → f x ≡ g x) → filter f xs ≡ filter g xs
same-filter f g [] same = refl
same-filter f g (x ∷ xs) same =
    ap (λ b. cond b (x ∷ filter f xs) (filter f xs)) (same x (inl refl))
    ∙ ap (λ ys. cond (g x) (x ∷ ys) ys) (same-filter f g xs (λ y m. same y (inr m)))

-- ---- one process more in a set of some of a rising list

apart : (p q : ℕ) → p < q → (p == q) ≡ false
apart p q lt = go (p == q) refl
  where
    go : (b : Bool) → (p == q) ≡ b → b ≡ false
    go false e = refl
    go true e = absurd (let is = eqb-true p q e in omega (arith, lt, is))

not-below : (p q : ℕ) → p < q → nat_lt q p ≡ false
not-below p q lt = go (nat_lt q p) refl
  where
    go : (b : Bool) → nat_lt q p ≡ b → b ≡ false
    go false e = refl
    go true e = absurd (let other = ltb-true q p e in omega (arith, lt, other))

not-below-itself : (p : ℕ) → nat_lt p p ≡ false
not-below-itself p = go (nat_lt p p) refl
  where
    go : (b : Bool) → nat_lt p p ≡ b → b ≡ false
    go false e = refl
    go true e = absurd (let other = ltb-true p p e in omega (arith, other))

swapped : (p q : ℕ) → (q == p) ≡ (p == q)
swapped p q = go (p == q) refl (q == p) refl
  where
    go : (a : Bool) → (p == q) ≡ a → (b : Bool) → (q == p) ≡ b → b ≡ a
    go true e true f = refl
    go false e false f = refl
    go true e false f = absurd (let is = eq-eqb q p (sym (eqb-true p q e)) in cc)
    go false e true f = absurd (let is = eq-eqb p q (sym (eqb-true q p f)) in cc)

put-first : (p : ℕ) (ys : List ℕ) → ((y : ℕ) → Mem y ys → p < y) → put_once p ys ≡ p ∷ ys
put-first p [] above = refl
put-first p (y ∷ ys) above =
    ap (λ b. if b then y ∷ put_once p ys else if y == p then y ∷ ys else p ∷ y ∷ ys) (not-below p y (above y (inl refl)))
    ∙ ap (λ b. if b then y ∷ ys else p ∷ y ∷ ys) (swapped p y ∙ apart p y (above y (inl refl)))

put-same : (p : ℕ) (ys : List ℕ) → put_once p (p ∷ ys) ≡ p ∷ ys
put-same p ys =
    ap (λ b. if b then p ∷ put_once p ys else if p == p then p ∷ ys else p ∷ p ∷ ys) (not-below-itself p)
    ∙ ap (λ b. if b then p ∷ ys else p ∷ p ∷ ys) (eq-eqb p p refl)

put-later : (p x : ℕ) (ys : List ℕ) → x < p → put_once p (x ∷ ys) ≡ x ∷ put_once p ys
put-later p x ys lt = ap (λ b. if b then x ∷ put_once p ys else if x == p then x ∷ ys else p ∷ x ∷ ys) (lt-ltb x p lt)

module _ (g : ℕ → Bool) (p : ℕ) where
  put-here : (xs : List ℕ) → ((y : ℕ) → Mem y xs → p < y) → (b : Bool)
      → put_once p (cond b (p ∷ filter g xs) (filter g xs)) ≡ p ∷ filter g xs
  put-here xs above true = put-same p (filter g xs)
  put-here xs above false = put-first p (filter g xs) (λ y m. above y (filter-mem g xs y m).0)

  put-there : (x : ℕ) (xs : List ℕ) → x < p → put_once p (filter g xs) ≡ filter (λ q. (p == q) || g q) xs → (b : Bool)
      → put_once p (cond b (x ∷ filter g xs) (filter g xs))
      ≡ cond b (x ∷ filter (λ q. (p == q) || g q) xs) (filter (λ q. (p == q) || g q) xs)
  put-there x xs lt rest true = put-later p x (filter g xs) lt ∙ ap (λ ys. x ∷ ys) rest
  put-there x xs lt rest false = rest

  put-kept : (xs : List ℕ) → Rises xs → Mem p xs → put_once p (filter g xs) ≡ filter (λ q. (p == q) || g q) xs
  put-kept [] rises m = absurd m
  put-kept (x ∷ xs) rises (inl e) =
      subst (λ x. put_once p (cond (g x) (x ∷ filter g xs) (filter g xs))
      ≡ cond ((p == x) || g x) (x ∷ filter (λ q. (p == q) || g q) xs) (filter (λ q. (p == q) || g q) xs)) (sym e)
      (put-here xs above (g p)
      ∙ ap (λ ys. p ∷ ys) (same-filter g (λ q. (p == q) || g q) xs (λ y n. ap (λ b. b || g y) (sym (apart p y (above y n)))))
      ∙ ap (λ b. cond (b || g p) (p ∷ filter (λ q. (p == q) || g q) xs) (filter (λ q. (p == q) || g q) xs)) (sym (eq-eqb p p refl)))
    where
      above : (y : ℕ) → Mem y xs → p < y
      above y n = subst (λ x. x < y) e (rises.0 y n)
  put-kept (x ∷ xs) rises (inr m) =
      put-there x xs (rises.0 p m) (put-kept xs rises.1 m) (g x)
      ∙ ap (λ b. cond (b || g x) (x ∷ filter (λ q. (p == q) || g q) xs) (filter (λ q. (p == q) || g q) xs))
      (sym (swapped x p ∙ apart x p (rises.0 p m)))

-- ---- the signers of claims in a set

abbrev pub put_signers : List ℕ → List Claim → List ℕ
put_signers found cs = fold (λ found c. put_once c.signer found) found cs

or-swap : (a b c : Bool) → (a || (b || c)) ≡ ((b || a) || c)
or-swap true true c = refl
or-swap true false c = refl
or-swap false true c = refl
or-swap false false c = refl

signers-kept : (g : ℕ → Bool) (xs : List ℕ) → Rises xs → (cs : List Claim) → ((c : Claim) → Mem c cs → Mem c.signer xs)
    → put_signers (filter g xs) cs ≡ filter (λ q. list_any (λ (c : Claim). c.signer == q) cs || g q) xs
signers-kept g xs rises [] each = refl
signers-kept g xs rises (c ∷ cs) each =
    ap (λ found. put_signers found cs) (put-kept g c.signer xs rises (each c (inl refl)))
    ∙ signers-kept (λ q. (c.signer == q) || g q) xs rises cs (λ d m. each d (inr m))
    ∙ same-filter (λ q. list_any (λ (c : Claim). c.signer == q) cs || ((c.signer == q) || g q))
    (λ q. ((c.signer == q) || list_any (λ (c : Claim). c.signer == q) cs) || g q) xs
    (λ q m. or-swap (list_any (λ (c : Claim). c.signer == q) cs) (c.signer == q) (g q))

none-kept : (xs : List ℕ) → filter (λ q. false) xs ≡ []
none-kept [] = refl
none-kept (x ∷ xs) = none-kept xs

-- ---- who has a second claim

module _ (s : Setting) (claims : List Claim) where
  pub pair-within : (q : ℕ) (pair : Claim × Claim) → pair_behind [] (claims_by s claims q) ≡ Some pair
      → Mem pair.0 (claims_by s claims q) × Mem pair.1 (claims_by s claims q)
  pair-within q pair e =
      let first = pair-some [] (claims_by s claims q) pair (λ d e m. absurd m) e in (
        subst (Mem pair.0) (sym first.parts) (mem-behind first.front (pair.0 ∷ (first.between ++ pair.1 ∷ first.back)) pair.0 (inl refl)),
        subst (Mem pair.1) (sym first.parts) (mem-behind first.front (pair.0 ∷ (first.between ++ pair.1 ∷ first.back)) pair.1
            (inr (mem-behind first.between (pair.1 ∷ first.back) pair.1 (inl refl)))),
      )

  paired : (q : ℕ) (pair : Claim × Claim) → pair_behind [] (claims_by s claims q) ≡ Some pair → is_convicted s claims q ≡ true
  paired q pair e =
      let first = pair-some [] (claims_by s claims q) pair (λ d e m. absurd m) e in
      let within = pair-within q pair e in
      let one = of-signer s claims q pair.0 within.0 in
      let other = of-signer s claims q pair.1 within.1 in
      by-convicts s claims q (record {
        one = pair.0;
        other = pair.1;
        one_of = mem-Contains claims pair.0 one.0;
        other_of = mem-Contains claims pair.1 other.0;
        signer = one.1;
        one_valid = one.2;
        other_valid = other.2;
        conflict = (one.1 ∙ sym other.1, first.slots, first.differ);
      })

  unpaired : (q : ℕ) → pair_behind [] (claims_by s claims q) ≡ None → is_convicted s claims q ≡ true → ⊥
  unpaired q e yes' =
      let c : Convicts s claims q = convicts-by s claims q yes' in
      let one = signer-of s claims q c.one (Contains-mem claims c.one c.one_of) c.signer c.one_valid in
      let other = signer-of s claims q c.other (Contains-mem claims c.other c.other_of) (sym c.conflict.0 ∙ c.signer) c.other_valid in
      c.conflict.2 (pair-none [] (claims_by s claims q) (λ d f m. absurd m) e c.one c.other one other c.conflict.1)

  pub convicted-by : (q : ℕ) → is_some (second_of s claims q) ≡ is_convicted s claims q
  convicted-by q = go (pair_behind [] (claims_by s claims q)) refl (is_convicted s claims q) refl
    where
      go : (o : Option (Claim × Claim)) → pair_behind [] (claims_by s claims q) ≡ o → (b : Bool) → is_convicted s claims q ≡ b
          → is_some (option_map (λ (pair : Claim × Claim). pair.1) o) ≡ b
      go (Some pair) e true t = refl
      go (Some pair) e false t = absurd (let is = paired q pair e in cc)
      go None e true t = absurd (unpaired q e t)
      go None e false t = refl

  second-has-key : (q : ℕ) → (o : Option (Claim × Claim)) → pair_behind [] (claims_by s claims q) ≡ o
      → (d : Claim) → option_map (λ (pair : Claim × Claim). pair.1) o ≡ Some d → Mem q (keyed s)
  second-has-key q None e d is = absurd cc
  second-has-key q (Some pair) e d is =
      let other = of-signer s claims q pair.1 (pair-within q pair e).1 in
      subst (λ p. Mem p (keyed s)) other.1 (has-key s pair.1 other.2)

module _ (s : Setting) (claims own : List Claim) (t : Table) (saw : Saw s claims own t) where
  each-has-key : (c : Claim) → Mem c t.seconds → Mem c.signer (keyed s)
  each-has-key c m =
      let at = mem-find (λ (d : Claim). d.signer == c.signer) t.seconds c m (eq-eqb c.signer c.signer refl) in
      second-has-key s claims c.signer (pair_behind [] (claims_by s claims c.signer)) refl at.0 (sym (saw.seconds c.signer) ∙ at.1)

  pub has-second : (q : ℕ) → list_any (λ (c : Claim). c.signer == q) t.seconds ≡ is_convicted s claims q
  has-second q = any-is (find (λ (c : Claim). c.signer == q) t.seconds) refl ∙ ap is_some (saw.seconds q) ∙ convicted-by s claims q
    where
      any-is : (o : Option Claim) → find (λ (c : Claim). c.signer == q) t.seconds ≡ o
          → list_any (λ (c : Claim). c.signer == q) t.seconds ≡ is_some o
      any-is (Some d) e = any-found (λ (c : Claim). c.signer == q) t.seconds d e
      any-is None e = any-not-found (λ (c : Claim). c.signer == q) t.seconds e

  pub all-convicted : IsRising s.roster → put_signers [] t.seconds ≡ convicted s claims
  all-convicted rising =
      ap (λ found. put_signers found t.seconds) (sym (none-kept (keyed s)))
      ∙ signers-kept (λ q. false) (keyed s) (numbers-rise s.roster rising) t.seconds each-has-key
      ∙ same-filter (λ q. list_any (λ (c : Claim). c.signer == q) t.seconds || false) (is_convicted s claims) (keyed s)
      (λ q m. or-false (list_any (λ (c : Claim). c.signer == q) t.seconds) ∙ has-second q)
    where
      or-false : (b : Bool) → (b || false) ≡ b
      or-false true = refl
      or-false false = refl
