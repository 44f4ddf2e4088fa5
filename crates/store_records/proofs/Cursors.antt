-- The pairs that are left, after the next one.
use Rattle.std.proofs.Common.{◌≡◌, ℕ, zero, suc, ◌<◌, Bool, true, false, List, [], ◌∷◌, length, Ok, Err, refl, ap, ◌∙◌, arith}
use Rattle.std.specs.Prelude.{not, nat_lt}
use Rattle.std.proofs.lemmas.Bool.{lt-ltb, le-ltb}
use Rattle.byte_defs.specs.Fields.{◌>>=◌, refuse_if}
use Rattle.byte_defs.specs.Orders.{numbers_below}
use Rattle.store_defs.specs.Stores.{Pair, Store, Reading, key_at, value_at, pairs_at}
use Rattle.store_laws.proofs.Staying.{broken, done}
use Rattle.store_records.specs.Cursors.{pair_in, pairs_only}

-- the end of what is read after the pairs
abbrev last : Store × List ℕ → Reading Store
last pairs = refuse_if (nat_lt 0 (length pairs.1)) tt >>= λ _. done pairs.0

put-last : (e : Pair) (others : Reading (Store × List ℕ))
    → ((others >>= λ o. done (e ∷ o.0, o.1)) >>= last) ≡ ((others >>= last) >>= λ s. done (e ∷ s))
put-last e (Err f) = refl
put-last e (Ok o) = go (nat_lt 0 (length o.1))
  where
    go : (b : Bool) → (refuse_if b broken >>= λ _. done (e ∷ o.0)) ≡ ((refuse_if b broken >>= λ _. done o.0) >>= λ s. done (e ∷ s))
    go true = refl
    go false = refl

-- a pair and those after it, in one step and in two
abbrev with-others : ℕ → List ℕ → List ℕ × List ℕ → Reading (Store × List ℕ)
with-others n key value = pairs_at n key value.1 >>= λ o. done ((key, value.0) ∷ o.0, o.1)

abbrev alone : List ℕ → List ℕ × List ℕ → Reading (Pair × List ℕ)
alone key value = done ((key, value.0), value.1)

abbrev others : ℕ → Pair × List ℕ → Reading Store
others n p = (pairs_at n p.0.0 p.1 >>= last) >>= λ s. done (p.0 ∷ s)

next-pair : (n : ℕ) (before bytes : List ℕ)
    → pairs_only (suc n) before bytes ≡ (pair_in before bytes >>= λ p. pairs_only n p.0.0 p.1 >>= λ s. done (p.0 ∷ s))
unfolding pairs_at pairs_only pair_in
next-pair n before bytes = by-key (key_at bytes)
  where
    by-value : (key : List ℕ) (value : Reading (List ℕ × List ℕ)) → ((value >>= with-others n key) >>= last) ≡ ((value >>= alone key) >>= others n)
    by-value key (Err f) = refl
    by-value key (Ok value) = put-last (key, value.0) (pairs_at n key value.1)

    by-order : (b : Bool) (key : List ℕ × List ℕ) → ((refuse_if b broken >>= λ _. value_at key.1 >>= with-others n key.0) >>= last)
        ≡ ((refuse_if b broken >>= λ _. value_at key.1 >>= alone key.0) >>= others n)
    by-order true key = refl
    by-order false key = by-value key.0 (value_at key.1)

    by-key : (k : Reading (List ℕ × List ℕ))
        → ((k >>= λ key. refuse_if (not (numbers_below before key.0)) broken >>= λ _. value_at key.1 >>= with-others n key.0) >>= last)
        ≡ ((k >>= λ key. refuse_if (not (numbers_below before key.0)) broken >>= λ _. value_at key.1 >>= alone key.0) >>= others n)
    by-key (Err f) = refl
    by-key (Ok key) = by-order (not (numbers_below before key.0)) key

-- ---- what the next pair of a cursor is

pub one-more : (n m : ℕ) (before bytes rest : List ℕ) (e : Pair) → n ≡ suc m → pair_in before bytes ≡ Ok (e, rest)
    → pairs_only n before bytes ≡ (pairs_only m e.0 rest >>= λ s. done (e ∷ s))
one-more n m before bytes rest e is pair = ap (λ (k : ℕ). pairs_only k before bytes) is ∙ next-pair m before bytes
    ∙ ap (λ (r : Reading (Pair × List ℕ)). r >>= λ p. pairs_only m p.0.0 p.1 >>= λ s. done (p.0 ∷ s)) pair

pub no-pair : (n : ℕ) (before bytes : List ℕ) → 0 < n → pair_in before bytes ≡ Err tt → pairs_only n before bytes ≡ Err tt
no-pair zero before bytes some pair = absurd (omega arith)
no-pair (suc n) before bytes some pair = next-pair n before bytes
    ∙ ap (λ (r : Reading (Pair × List ℕ)). r >>= λ p. pairs_only n p.0.0 p.1 >>= λ s. done (p.0 ∷ s)) pair

pub none-left : (n : ℕ) (before bytes : List ℕ) → n ≡ 0 → length bytes ≡ 0 → pairs_only n before bytes ≡ Ok []
unfolding pairs_only pairs_at
none-left n before bytes is none = ap (λ (k : ℕ). pairs_only k before bytes) is
    ∙ ap (λ (b : Bool). refuse_if b broken >>= λ _. done []) (le-ltb 0 (length bytes) (omega arith))

pub bytes-left : (n : ℕ) (before bytes : List ℕ) → n ≡ 0 → 0 < length bytes → pairs_only n before bytes ≡ Err tt
unfolding pairs_only pairs_at
bytes-left n before bytes is some = ap (λ (k : ℕ). pairs_only k before bytes) is
    ∙ ap (λ (b : Bool). refuse_if b broken >>= λ _. done []) (lt-ltb 0 (length bytes) some)
