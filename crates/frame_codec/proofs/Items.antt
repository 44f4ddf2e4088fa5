-- What an iterator lends next, and what it has left then.
use Rattle.std.proofs.Common.{◌≡◌, ℕ, zero, suc, ◌+◌, ◌-◌, ◌≢◌, List, [], ◌∷◌, Result, Ok, Err, refl, arith}
use Rattle.std.specs.Prelude.{IsOk}
use Rattle.message_defs.specs.declared.FrameFault.{FrameFault}
use Rattle.byte_defs.specs.Fields.{◌>>=◌}
use Rattle.message_defs.specs.Frames.{Group, signature_at, signatures_at, group_at, groups_at}
use Rattle.frame_codec.specs.Views.{items_of}

-- the first item, and those after it
pub record Lends {X : Type 0} (x : X) (whole others : Result (List X × List ℕ) FrameFault) : Type 0 where
  pub readable : IsOk others
  pub items : items_of whole ≡ x ∷ items_of others

-- the others, with one in front
abbrev with_first : {X : Type 0} → X → Result (List X × List ℕ) FrameFault → Result (List X × List ℕ) FrameFault
with_first x others = others >>= λ ys. Ok (x ∷ ys.0, ys.1)

lends : {X : Type 0} (x : X) (others : Result (List X × List ℕ) FrameFault) → IsOk (with_first x others)
    → Lends x (with_first x others) others
lends x (Ok ys) ok = record { readable = refl; items = refl }
lends x (Err e) ok = absurd cc

no_error : {X : Type 0} (r : Result X FrameFault) (e : FrameFault) → IsOk r → r ≡ Err e → ⊥
no_error (Ok x) e ok h = cc
no_error (Err d) e ok h = cc

pub no_signatures : (least : ℕ) (bytes : List ℕ) (n : ℕ) → n ≡ 0 → items_of (signatures_at n least bytes) ≡ []
unfolding signatures_at
no_signatures least bytes n e = rw e refl

pub no_groups : (bytes : List ℕ) (n : ℕ) → n ≡ 0 → items_of (groups_at n bytes) ≡ []
unfolding groups_at
no_groups bytes n e = rw e refl

pub signature_lends : (n least : ℕ) (bytes : List ℕ) (s : ℕ × List ℕ) (after : List ℕ) → n ≢ 0 → IsOk (signatures_at n least bytes)
    → signature_at least bytes ≡ Ok (s, after)
    → Lends s (signatures_at n least bytes) (signatures_at (n - 1) (s.0 + 1) after)
unfolding signatures_at
signature_lends zero least bytes s after some ok h = absurd (some refl)
signature_lends (suc n) least bytes s after some ok h =
    let one : signatures_at (suc n) least bytes ≡ (signatures_at n (s.0 + 1) after >>= λ ys. Ok (s ∷ ys.0, ys.1)) = rw h refl in
    let less : suc n - 1 ≡ n = omega arith in
    rw (less, one) (lends s (signatures_at n (s.0 + 1) after) (rw one at ok))

pub signature_stands : (n least : ℕ) (bytes : List ℕ) (e : FrameFault) → n ≢ 0 → IsOk (signatures_at n least bytes)
    → signature_at least bytes ≡ Err e → ⊥
unfolding signatures_at
signature_stands zero least bytes e some ok h = some refl
signature_stands (suc n) least bytes e some ok h =
    let one : signatures_at (suc n) least bytes ≡ Err e = rw h refl in
    no_error _ e ok one

pub group_lends : (n : ℕ) (bytes : List ℕ) (g : Group) (after : List ℕ) → n ≢ 0 → IsOk (groups_at n bytes) → group_at bytes ≡ Ok (g, after)
    → Lends g (groups_at n bytes) (groups_at (n - 1) after)
unfolding groups_at
group_lends zero bytes g after some ok h = absurd (some refl)
group_lends (suc n) bytes g after some ok h =
    let one : groups_at (suc n) bytes ≡ (groups_at n after >>= λ ys. Ok (g ∷ ys.0, ys.1)) = rw h refl in
    let less : suc n - 1 ≡ n = omega arith in
    rw (less, one) (lends g (groups_at n after) (rw one at ok))

pub group_stands : (n : ℕ) (bytes : List ℕ) (e : FrameFault) → n ≢ 0 → IsOk (groups_at n bytes) → group_at bytes ≡ Err e → ⊥
unfolding groups_at
group_stands zero bytes e some ok h = some refl
group_stands (suc n) bytes e some ok h =
    let one : groups_at (suc n) bytes ≡ Err e = rw h refl in
    no_error _ e ok one
