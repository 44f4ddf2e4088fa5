-- An answer is a byte and at most a value.
use Rattle.std.proofs.Common.{◌≡◌, ℕ, ◌+◌, ◌<◌, ◌≤◌, List, [], ◌∷◌, ◌++◌, length, Option, Some, None, Bool, true, false, refl, sym, ap, ◌∙◌, subst, arith, Ok, Err}
use Rattle.std.specs.Prelude.{if◌then◌else◌, find, option_map, Result, ◌==◌}
use Rattle.std.specs.List.{AllByRecursion}
use Rattle.byte_defs.specs.Equality.{same_bytes}
use Rattle.store_defs.specs.Stores.{Answer, Command, Done, Full, Differs, NoCommand, Set, Get, Remove, Exchange, IsPair, IsStore, Pair, Reading, Store, answer_bytes, answer_to, applied, carried_out, found, is_of_key, key_of, missed, most_keys, request_of, value_of, with_pair}

no-value : {old : List ℕ} → None ≡ Some old → ⊥
no-value h = cc

same-value : {a b : List ℕ} → Some a ≡ Some b → a ≡ b
same-value h = cc

-- a value that the store has
value-short : (key : List ℕ) (s : Store) (old : List ℕ) → AllByRecursion IsPair s → value_of key s ≡ Some old → length old ≤ 512
value-short key [] old each is = absurd (no-value is)
value-short key (e ∷ s) old each is = go (is_of_key key e) (value-short key s old each.1) is
  where
    go : (b : Bool) → (option_map (λ (f : Pair). f.1) (find (is_of_key key) s) ≡ Some old → length old ≤ 512)
        → option_map (λ (f : Pair). f.1) (if b then Some e else find (is_of_key key) s) ≡ Some old → length old ≤ 512
    go true others here = let same = same-value here in let short = each.0.value in omega (arith, ap length same, short)
    go false others here = others here

found-short : (c : Command) (old : List ℕ) (s : Store) → length old ≤ 512 → length (answer_bytes (found c old s).0) ≤ 513
found-short (Set key value) old s short = omega arith
found-short (Get key) old s short = omega arith
found-short (Remove key) old s short = omega arith
found-short (Exchange key expected value) old s short = go (same_bytes old expected)
  where
    go : (b : Bool) → length (answer_bytes (if◌then◌else◌ {A = Answer × Store} b (Done, with_pair key value s) (Differs old, s)).0) ≤ 513
    go true = omega arith
    go false = omega arith

missed-short : (c : Command) (s : Store) → length (answer_bytes (missed c s).0) ≤ 513
missed-short (Set key value) s = go (length s == most_keys)
  where
    go : (b : Bool) → length (answer_bytes (if◌then◌else◌ {A = Answer × Store} b (Full, s) (Done, with_pair key value s)).0) ≤ 513
    go true = omega arith
    go false = omega arith
missed-short (Get key) s = omega arith
missed-short (Remove key) s = omega arith
missed-short (Exchange key expected value) s = omega arith

carried-short : (c : Command) (s : Store) → IsStore s → length (answer_bytes (carried_out c s).0) ≤ 513
unfolding carried_out
carried-short c s is = go (value_of (key_of c) s) refl
  where
    go : (o : Option (List ℕ)) → o ≡ value_of (key_of c) s
        → length (answer_bytes (elim o as (λ x. Answer × Store) [ None ↦ missed c s | Some old ↦ found c old s ]).0) ≤ 513
    go None here = missed-short c s
    go (Some old) here = found-short c old s (value-short (key_of c) s old is.each (sym here))

answer-short : (s : Store) (payload : List ℕ) → IsStore s → length (answer_to s payload) ≤ 513
unfolding applied
answer-short s payload is = go (request_of payload)
  where
    go : (r : Reading Command)
        → length (answer_bytes (elim r as (λ x. Answer × Store) [ Ok c ↦ carried_out c s | Err fault ↦ (NoCommand, s) ]).0) ≤ 513
    go (Ok c) = carried-short c s is
    go (Err fault) = omega arith

-- an answer after no bytes
pub appended-short : (s : Store) (payload before after : List ℕ) → IsStore s → after ≡ before ++ answer_to s payload → before ≡ []
    → length after ≤ 513
appended-short s payload before after within said none =
    let short = answer-short s payload within in
    let same : after ≡ answer_to s payload = said ∙ ap (λ (b : List ℕ). b ++ answer_to s payload) none in
    omega (arith, ap length same, short)
