-- The signatures of an entry: skipping one after the other, as a loop does, and lending the next.
use Rattle.std.proofs.Common.{◌≡◌, ◌≢◌, ℕ, zero, suc, ◌+◌, ◌-◌, ◌<◌, ◌≤◌, List, [], ◌∷◌, Result, Ok, Err, refl, sym, ◌∙◌, arith}
use Rattle.std.specs.Prelude.{IsOk}
use Rattle.stmt_codec.specs.Below.{◌>>=◌, rest_of}
use Rattle.message_defs.specs.Entries.{kept_at, all_kept_at}
use Rattle.member_events.specs.Finds.{items_of}

abbrev Read : Type 0 → Type 0
Read X = Result (X × List ℕ) (Unit {0})

-- the value that is read first does not change what is left
first_dropped : {A : Type 0} (x : A) (read : Read (List A)) → rest_of (read >>= λ others. Ok (x ∷ others.0, others.1)) ≡ rest_of read
first_dropped x (Ok others) = refl
first_dropped x (Err e) = refl

module _ (count i : ℕ) (bytes : List ℕ) (total : Result (List ℕ) (Unit {0})) where
  pub kept_passes : (s after : List ℕ) → i < count → kept_at bytes ≡ Ok (s, after) → rest_of (all_kept_at (count - i) bytes) ≡ total
      → rest_of (all_kept_at (count - (i + 1)) after) ≡ total
  unfolding all_kept_at
  kept_passes s after lt h so_far =
      let k : count - i ≡ suc (count - (i + 1)) = omega arith in
      let one : rest_of (all_kept_at (count - i) bytes)
      ≡ rest_of (all_kept_at (count - (i + 1)) after) = rw (k, h) (first_dropped s (all_kept_at (count - (i + 1)) after)) in
      sym one ∙ so_far

  pub all_passed : count ≤ i → rest_of (all_kept_at (count - i) bytes) ≡ total → total ≡ Ok bytes
  unfolding all_kept_at
  all_passed le so_far =
      let k : count - i ≡ 0 = omega arith in
      let one : rest_of (all_kept_at (count - i) bytes) ≡ Ok bytes = rw k refl in
      sym so_far ∙ one

  pub kept_fails : i < count → kept_at bytes ≡ Err tt → rest_of (all_kept_at (count - i) bytes) ≡ total → total ≡ Err tt
  unfolding all_kept_at
  kept_fails lt h so_far =
      let k : count - i ≡ suc (count - (i + 1)) = omega arith in
      let one : rest_of (all_kept_at (count - i) bytes) ≡ Err tt = rw (k, h) refl in
      sym so_far ∙ one

pub none_kept : (bytes : List ℕ) (n : ℕ) → n ≡ 0 → items_of (all_kept_at n bytes) ≡ []
unfolding all_kept_at
none_kept bytes n e = rw e refl

-- the first signature, and those after it
pub record Lends (x : List ℕ) (whole others : Read (List (List ℕ))) : Type 0 where
  pub readable : IsOk others
  pub items : items_of whole ≡ x ∷ items_of others

-- the others, with one in front
abbrev with_first : List ℕ → Read (List (List ℕ)) → Read (List (List ℕ))
with_first x others = others >>= λ ys. Ok (x ∷ ys.0, ys.1)

lends : (x : List ℕ) (others : Read (List (List ℕ))) → IsOk (with_first x others) → Lends x (with_first x others) others
lends x (Ok ys) ok = record { readable = refl; items = refl }
lends x (Err e) ok = absurd cc

pub kept_lends : (n : ℕ) (bytes s after : List ℕ) → n ≢ 0 → IsOk (all_kept_at n bytes) → kept_at bytes ≡ Ok (s, after)
    → Lends s (all_kept_at n bytes) (all_kept_at (n - 1) after)
unfolding all_kept_at
kept_lends zero bytes s after some ok h = absurd (some refl)
kept_lends (suc n) bytes s after some ok h =
    let one : all_kept_at (suc n) bytes ≡ with_first s (all_kept_at n after) = rw h refl in
    let less : suc n - 1 ≡ n = omega arith in
    rw (less, one) (lends s (all_kept_at n after) (rw one at ok))

no_error : {X : Type 0} (r : Result X (Unit {0})) → IsOk r → r ≡ Err tt → ⊥
no_error (Ok x) ok h = cc
no_error (Err d) ok h = cc

pub kept_stands : (n : ℕ) (bytes : List ℕ) → n ≢ 0 → IsOk (all_kept_at n bytes) → kept_at bytes ≡ Err tt → ⊥
unfolding all_kept_at
kept_stands zero bytes some ok h = some refl
kept_stands (suc n) bytes some ok h =
    let one : all_kept_at (suc n) bytes ≡ Err tt = rw h refl in
    no_error _ ok one
