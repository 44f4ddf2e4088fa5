-- A text that is cut at the first byte of one kind.
use Rattle.std.proofs.Common.{◌≡◌, ℕ, ◌+◌, ◌-◌, ◌<◌, ◌≤◌, ◌==◌, Bool, true, false, List, [], ◌∷◌, length, take, drop, Option, Some, None, refl, sym, arith}
use Rattle.std.proofs.lemmas.Grind.{common_steps}
use Rattle.std.specs.Prelude.{nat_lt, if◌then◌else◌, is_some, not}
use Rattle.std.specs.Borrow.{Bor}
use Rattle.std.specs.Option.{option_map_or}
use Rattle.std.specs.List.{slice_split, position, position_or_len}
use Rattle.std.proofs.lemmas.List.{take_all}
use Rattle.std.proofs.lemmas.List.Sums.{fails_before_first}
use Rattle.std.proofs.lemmas.List.Splits.{length-slice_split, slice_split_first, slice_split_none}

place_is : (p l i : ℕ) (b : Bool) → nat_lt p l ≡ b → (if b then Some p else None) ≡ Some i → (p < l) × (i ≡ p)
place_is p l i true e h = (grind arith, grind arith)
place_is p l i false e h = cc h

no_place : (p l : ℕ) (b : Bool) → nat_lt p l ≡ b → (if b then Some p else None) ≡ None → l ≤ p
no_place p l true e h = cc h
no_place p l false e h = grind arith

-- the place is that of the first such byte
pub cut_there : (c : ℕ) (text : List ℕ) (i : ℕ) → Some i ≡ position (λ x. x == c) text
    → slice_split (λ x. x == c) text ≡ take i text ∷ slice_split (λ x. x == c) (take (length text - (i + 1)) (drop (i + 1) text))
cut_there c text i h =
    let at = place_is (position_or_len (λ x. x == c) text) (length text) i _ refl (sym h) in
    let all : take (length text - (i + 1)) (drop (i + 1) text)
    ≡ drop (i + 1) text = take_all _ (drop (i + 1) text) (grind (arith, common_steps)) in
    rw (all, at.1) (slice_split_first (λ x. x == c) text 0 at.0)

-- there is no such byte
pub not_cut : (c : ℕ) (text : List ℕ) → None ≡ position (λ x. x == c) text → slice_split (λ x. x == c) text ≡ text ∷ []
not_cut c text h =
    let past = no_place (position_or_len (λ x. x == c) text) (length text) _ refl (sym h) in
    slice_split_none (λ x. x == c) text (λ k d l. fails_before_first (λ x. x == c) text k d (omega (arith, past, l)))

-- parts are left where there is a rest
pub no_rest : (c : ℕ) (rest : Option (Bor (List ℕ))) (done : Bool) → is_some rest ≡ not done
    → done ≡ (length (option_map_or (λ r. slice_split (λ x. x == c) r.now) rest []) == 0)
no_rest c None true e = refl
no_rest c None false e = absurd cc
no_rest c (Some r) true e = absurd cc
no_rest c (Some r) false e = rw (length-slice_split (λ x. x == c) r.now) (grind arith)
