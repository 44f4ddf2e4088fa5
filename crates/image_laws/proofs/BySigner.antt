-- Pairs of claims by rising signer: what holds of them all, a claim more, and pairs that rise already.
use Rattle.std.proofs.Common.{◌≡◌, ◌≢◌, inl, inr, ℕ, zero, suc, ◌<◌, ◌≤◌, List, [], ◌∷◌, ◌++◌, map, Bool, true, false, Option, Some, refl, sym, ap, ◌∙◌, subst, arith}
use Rattle.std.specs.Prelude.{if◌then◌else◌, ◌||◌, ◌==◌, nat_lt, find}
use Rattle.std.specs.List.{list_any}
use Rattle.std.proofs.lemmas.Bool.{lt-ltb, ltb-true, ltb-false, eqb-true, false_from_ne_true}
use Rattle.byte_defs.specs.Orders.{numbers_below, put, sorted}
use Rattle.message_defs.specs.Statements.{Claim}
use Rattle.pool_laws.proofs.Members.{Mem, mem-map, map-mem}
use Rattle.pool_laws.proofs.Places.{Pairs, slice_get-mem, mem-slice_get}
use Rattle.pool_laws.proofs.Tests.{some-same}
use Rattle.pool_laws.proofs.Sorting.{by_number, below-by_number, mem-sorted}
use Rattle.image_defs.specs.Images.{conflict_key, by_signer}
use Rattle.image_laws.proofs.Rising.{Up, Apart, sorted-up}

abbrev pub signer-of : Claim × Claim → ℕ
signer-of e = e.0.signer

abbrev pub Others : Claim × Claim → Claim × Claim → Type 0
Others e d = e.0.signer ≢ d.0.signer

-- ---- what is put where

abbrev below : Claim × Claim → Claim × Claim → Bool
below e d = numbers_below (conflict_key e) (conflict_key d)

pub is-below : (e d : Claim × Claim) → signer-of e < signer-of d → below e d ≡ true
is-below e d lt = below-by_number (signer-of e) (signer-of d) ∙ lt-ltb (signer-of e) (signer-of d) lt

not-below : (e d : Claim × Claim) → signer-of d ≤ signer-of e → below e d ≡ false
not-below e d le = below-by_number (signer-of e) (signer-of d) ∙ false_from_ne_true (nat_lt (signer-of e) (signer-of d))
    (λ is. (let lt = ltb-true (signer-of e) (signer-of d) is in omega (arith, lt, le)))

put-before : (e d : Claim × Claim) (ds : List (Claim × Claim)) → below e d ≡ true → put conflict_key e (d ∷ ds) ≡ e ∷ d ∷ ds
put-before e d ds is = ap (λ b. if b then e ∷ d ∷ ds else d ∷ put conflict_key e ds) is

put-behind : (e d : Claim × Claim) (ds : List (Claim × Claim)) → below e d ≡ false → put conflict_key e (d ∷ ds) ≡ d ∷ put conflict_key e ds
put-behind e d ds is = ap (λ b. if b then e ∷ d ∷ ds else d ∷ put conflict_key e ds) is

-- of two pairs, whichever is put first
lower-first : (a c : Claim × Claim) (zs : List (Claim × Claim)) → signer-of a < signer-of c
    → put conflict_key a (put conflict_key c zs) ≡ put conflict_key c (put conflict_key a zs)
lower-first a c [] lt = put-before a c [] (is-below a c lt) ∙ sym (put-behind c a [] (not-below c a (omega (arith, lt))))
lower-first a c (z ∷ zs) lt = go (below c z) (below a z) refl refl (lower-first a c zs lt)
  where
    a-c : below a c ≡ true
    a-c = is-below a c lt

    c-a : below c a ≡ false
    c-a = not-below c a (omega (arith, lt))

    through : below c z ≡ true → below a z ≡ true
    through is =
        let more : signer-of c < signer-of z = ltb-true (signer-of c) (signer-of z) (sym (below-by_number (signer-of c) (signer-of z)) ∙ is) in
        is-below a z (omega (arith, lt, more))

    go : (c-z a-z : Bool) → below c z ≡ c-z → below a z ≡ a-z
        → put conflict_key a (put conflict_key c zs) ≡ put conflict_key c (put conflict_key a zs)
        → put conflict_key a (put conflict_key c (z ∷ zs)) ≡ put conflict_key c (put conflict_key a (z ∷ zs))
    go true a-z e f rest =
        ap (put conflict_key a) (put-before c z zs e) ∙ put-before a c (z ∷ zs) a-c ∙ ap (λ xs. a ∷ xs) (sym (put-before c z zs e))
        ∙ sym (put-behind c a (z ∷ zs) c-a) ∙ ap (put conflict_key c) (sym (put-before a z zs (through e)))
    go false true e f rest =
        ap (put conflict_key a) (put-behind c z zs e) ∙ put-before a z (put conflict_key c zs) f ∙ ap (λ xs. a ∷ xs) (sym (put-behind c z zs e))
        ∙ sym (put-behind c a (z ∷ zs) c-a) ∙ ap (put conflict_key c) (sym (put-before a z zs f))
    go false false e f rest =
        ap (put conflict_key a) (put-behind c z zs e) ∙ put-behind a z (put conflict_key c zs) f ∙ ap (λ xs. z ∷ xs) rest
        ∙ sym (put-behind c z (put conflict_key a zs) e) ∙ ap (put conflict_key c) (sym (put-behind a z zs f))

either-first : (a c : Claim × Claim) (zs : List (Claim × Claim)) → signer-of a ≢ signer-of c
    → put conflict_key a (put conflict_key c zs) ≡ put conflict_key c (put conflict_key a zs)
either-first a c zs other = go (nat_lt (signer-of a) (signer-of c)) refl
  where
    above : (m n : ℕ) → m ≤ n → (n ≡ m → ⊥) → m < n
    above m n le apart = omega (arith, le, apart)

    go : (b : Bool) → nat_lt (signer-of a) (signer-of c) ≡ b
        → put conflict_key a (put conflict_key c zs) ≡ put conflict_key c (put conflict_key a zs)
    go true e = lower-first a c zs (ltb-true (signer-of a) (signer-of c) e)
    go false e = sym (lower-first c a zs (above (signer-of c) (signer-of a) (ltb-false (signer-of a) (signer-of c) e) other))

-- the pair of a new signer, last or first
pub by_signer-snoc : (es : List (Claim × Claim)) (e : Claim × Claim) → ((d : Claim × Claim) → Mem d es → Others d e)
    → by_signer (es ++ e ∷ []) ≡ put conflict_key e (by_signer es)
by_signer-snoc [] e other = refl
by_signer-snoc (d ∷ ds) e other = ap (put conflict_key d) (by_signer-snoc ds e (λ x m. other x (inr m)))
    ∙ either-first d e (by_signer ds) (other d (inl refl))

-- ---- what is asked of them all

any-put : (test : Claim × Claim → Bool) (e : Claim × Claim) (es : List (Claim × Claim))
    → list_any test (put conflict_key e es) ≡ list_any test (e ∷ es)
any-put test e [] = refl
any-put test e (d ∷ ds) = go (below e d) (any-put test e ds)
  where
    turned : (a b c : Bool) → (a || (b || c)) ≡ (b || (a || c))
    turned true true c = refl
    turned true false c = refl
    turned false b c = refl

    go : (b : Bool) → list_any test (put conflict_key e ds) ≡ list_any test (e ∷ ds)
        → list_any test (if b then e ∷ d ∷ ds else d ∷ put conflict_key e ds) ≡ list_any test (e ∷ d ∷ ds)
    go true rest = refl
    go false rest = ap (λ b. test d || b) rest ∙ turned (test d) (test e) (list_any test ds)

pub any-by_signer : (test : Claim × Claim → Bool) (es : List (Claim × Claim)) → list_any test (by_signer es) ≡ list_any test es
any-by_signer test [] = refl
any-by_signer test (e ∷ es) = any-put test e (by_signer es) ∙ ap (λ b. test e || b) (any-by_signer test es)

pub each-by_signer : (P : Claim × Claim → Type 0) (es : List (Claim × Claim)) → ((e : Claim × Claim) → Mem e es → P e)
    → (e : Claim × Claim) → Mem e (by_signer es) → P e
each-by_signer P es each e m = each e (mem-sorted conflict_key es e m)

-- ---- their signers

put-numbers : (e : Claim × Claim) (es : List (Claim × Claim)) → map signer-of (put conflict_key e es) ≡ put by_number (signer-of e) (map signer-of es)
put-numbers e [] = refl
put-numbers e (d ∷ ds) = go (below e d) (put-numbers e ds)
  where
    go : (b : Bool) → map signer-of (put conflict_key e ds) ≡ put by_number (signer-of e) (map signer-of ds)
        → map signer-of (if b then e ∷ d ∷ ds else d ∷ put conflict_key e ds)
        ≡ (if b then signer-of e ∷ signer-of d ∷ map signer-of ds else signer-of d ∷ put by_number (signer-of e) (map signer-of ds))
    go true rest = refl
    go false rest = ap (λ ns. signer-of d ∷ ns) rest

signers-sorted : (es : List (Claim × Claim)) → map signer-of (by_signer es) ≡ sorted by_number (map signer-of es)
signers-sorted [] = refl
signers-sorted (e ∷ es) = put-numbers e (by_signer es) ∙ ap (put by_number (signer-of e)) (signers-sorted es)

pairs-apart : (es : List (Claim × Claim)) → Pairs Others es → Apart (map signer-of es)
pairs-apart [] pairs = tt
pairs-apart (e ∷ es) pairs = (
  (λ m. (let there = map-mem signer-of es (signer-of e) m in
      let at = mem-slice_get es there.0 there.1 in
      pairs 0 (suc at.0) e there.0 (omega arith) refl at.1 (sym there.2))),
  pairs-apart es (λ i j a b lt at_i at_j. pairs (suc i) (suc j) a b (omega (arith, lt)) at_i at_j),
)

pub signers-up : (es : List (Claim × Claim)) → Pairs Others es → Up (map signer-of (by_signer es))
signers-up es pairs = subst Up (sym (signers-sorted es)) (sorted-up (map signer-of es) (pairs-apart es pairs))

-- pairs whose signers rise are in order
pub up-by_signer : (es : List (Claim × Claim)) → Up (map signer-of es) → by_signer es ≡ es
up-by_signer [] up = refl
up-by_signer (e ∷ []) up = refl
up-by_signer (e ∷ d ∷ ds) up = ap (put conflict_key e) (up-by_signer (d ∷ ds) up.1)
    ∙ put-before e d ds (is-below e d (up.0 (signer-of d) (inl refl)))

pub up-pairs : (es : List (Claim × Claim)) → Up (map signer-of es) → Pairs Others es
up-pairs [] up i j a b lt at_i at_j = absurd cc
up-pairs (e ∷ es) up zero zero a b lt at_i at_j = absurd (omega (arith, lt))
up-pairs (e ∷ es) up zero (suc j) a b lt at_i at_j = λ same.
    (let above : signer-of e < signer-of b = up.0 (signer-of b) (mem-map signer-of es b (slice_get-mem es j b at_j)) in
    let first : e ≡ a = some-same e a at_i in
    let is : signer-of e ≡ signer-of b = ap signer-of first ∙ same in
    omega (arith, above, is))
up-pairs (e ∷ es) up (suc i) zero a b lt at_i at_j = absurd (omega (arith, lt))
up-pairs (e ∷ es) up (suc i) (suc j) a b lt at_i at_j = up-pairs es up.1 i j a b (omega (arith, lt)) at_i at_j

-- ---- the pair of a signer

abbrev pub pair-of : ℕ → List (Claim × Claim) → Option (Claim × Claim)
pair-of n es = find (λ e. e.0.signer == n) es

pair-put : (n : ℕ) (e : Claim × Claim) (es : List (Claim × Claim)) → ((d : Claim × Claim) → Mem d es → Others e d)
    → pair-of n (put conflict_key e es) ≡ pair-of n (e ∷ es)
pair-put n e [] other = refl
pair-put n e (d ∷ ds) other = go (below e d) (pair-put n e ds (λ x m. other x (inr m)))
  where
    -- at most one of them is it
    turned : (a b : Bool) (o : Option (Claim × Claim)) → (a ≡ true → b ≡ true → ⊥)
        → (if b then Some d else (if a then Some e else o)) ≡ (if a then Some e else (if b then Some d else o))
    turned true true o one = absurd (one refl refl)
    turned true false o one = refl
    turned false b o one = refl

    go : (b : Bool) → pair-of n (put conflict_key e ds) ≡ pair-of n (e ∷ ds)
        → pair-of n (if b then e ∷ d ∷ ds else d ∷ put conflict_key e ds) ≡ pair-of n (e ∷ d ∷ ds)
    go true rest = refl
    go false rest = ap (λ o. if signer-of d == n then Some d else o) rest
        ∙ turned (signer-of e == n) (signer-of d == n) (pair-of n ds)
        (λ one two. other d (inl refl) (eqb-true (signer-of e) n one ∙ sym (eqb-true (signer-of d) n two)))

pub pair-by_signer : (n : ℕ) (es : List (Claim × Claim)) → Pairs Others es → pair-of n (by_signer es) ≡ pair-of n es
pair-by_signer n [] pairs = refl
pair-by_signer n (e ∷ es) pairs =
    pair-put n e (by_signer es) (each-by_signer (Others e) es (λ d m. (let at = mem-slice_get es d m in
    pairs 0 (suc at.0) e d (omega arith) refl at.1)))
    ∙ ap (λ o. if signer-of e == n then Some e else o)
    (pair-by_signer n es (λ i j a b lt at_i at_j. pairs (suc i) (suc j) a b (omega (arith, lt)) at_i at_j))
