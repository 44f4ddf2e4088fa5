-- The first line of bytes.
use Rattle.std.proofs.Common.{◌≡◌, ℕ, suc, ◌+◌, ◌<◌, ◌≤◌, ◌==◌, Bool, true, false, not, List, [], ◌∷◌, ◌++◌, length, take, drop, Option, None, Some, refl, ap, ◌∙◌, arith, length-append, length-take, ⊎_elim}
use Rattle.std.specs.Prelude.{nat_lt, if◌then◌else◌}
use Rattle.std.proofs.lemmas.Bool.{cases_lt, eqb-true, ltb-true, ltb-false}
use Rattle.std.specs.List.{list_any, position, position_or_len}
use Rattle.interop_lines.specs.Serving.{HasNoLine, IsLine, ended}

abbrev feed : ℕ → Bool
feed b = b == 10

-- where the first line feed stands, or the length
abbrev pub first_feed : List ℕ → ℕ
first_feed [] = 0
first_feed (b ∷ bytes) = if feed b then 0 else suc (first_feed bytes)

same_place : (bytes : List ℕ) → position_or_len feed bytes ≡ first_feed bytes
same_place [] = refl
same_place (b ∷ bytes) = of (feed b) (same_place bytes)
  where
    of : (t : Bool) → position_or_len feed bytes ≡ first_feed bytes
        → (if not t then 1 + position_or_len feed bytes else 0) ≡ (if t then 0 else suc (first_feed bytes))
    of true e = refl
    of false e = omega (arith, e)

-- the bytes before the first line feed have none, and those after it follow
pub record Cut (bytes : List ℕ) (at : ℕ) : Type 0 where
  pub parts : bytes ≡ ended (take at bytes) ++ drop (suc at) bytes
  pub no_feed : list_any feed (take at bytes) ≡ false

pub cut_there : (bytes : List ℕ) → first_feed bytes < length bytes → Cut bytes (first_feed bytes)
cut_there [] low = absurd (omega arith)
cut_there (b ∷ bytes) low = of (cut_there bytes) (b == 10) refl low
  where
    of : (first_feed bytes < length bytes → Cut bytes (first_feed bytes)) → (t : Bool) → (b == 10) ≡ t
        → first_feed (b ∷ bytes) < length (b ∷ bytes) → Cut (b ∷ bytes) (first_feed (b ∷ bytes))
    of cut true e low =
        let is : b ≡ 10 = eqb-true b 10 e in
        rw is (record { parts = refl; no_feed = refl })
    of cut false e low =
        let within = rw e at low in
        let rest = cut (omega (arith, within)) in
        rw e (record { parts = ap (λ (t : List ℕ). b ∷ t) rest.parts; no_feed = rw e rest.no_feed })

-- behind a line, the first line feed is the line's
pub feed_behind : (line more : List ℕ) → list_any feed line ≡ false → first_feed (ended line ++ more) ≡ length line
feed_behind [] more none = refl
feed_behind (b ∷ line) more none = of (feed_behind line more) (b == 10) refl
  where
    of : (list_any feed line ≡ false → first_feed (ended line ++ more) ≡ length line) → (t : Bool) → (b == 10) ≡ t
        → first_feed (b ∷ (ended line ++ more)) ≡ suc (length line)
    of behind true e = let some : true ≡ false = rw e at none in absurd cc
    of behind false e = rw e (ap suc (behind (rw e at none)))

pub feed_within : (bytes : List ℕ) → list_any feed bytes ≡ true → first_feed bytes < length bytes
feed_within [] some = absurd cc
feed_within (b ∷ bytes) some = of (feed_within bytes) (b == 10) refl
  where
    of : (list_any feed bytes ≡ true → first_feed bytes < length bytes) → (t : Bool) → (b == 10) ≡ t
        → first_feed (b ∷ bytes) < suc (length bytes)
    of within true e = rw e (omega arith)
    of within false e = let low = within (rw e at some) in rw e (omega arith)

-- ---- what `position` tells

place_is : (p l i : ℕ) (b : Bool) → nat_lt p l ≡ b → Some i ≡ (if b then Some p else None) → (p < l) × (i ≡ p)
place_is p l i true e h = (omega (arith, ltb-true p l e), cc)
place_is p l i false e h = absurd cc

no_place : (p l : ℕ) (b : Bool) → nat_lt p l ≡ b → (let none : Option ℕ = None in none) ≡ (if b then Some p else None) → l ≤ p
no_place p l true e h = absurd cc
no_place p l false e h = omega (arith, ltb-false p l e)

found_at : (bytes : List ℕ) (at : ℕ) → Some at ≡ position feed bytes → (first_feed bytes < length bytes) × (at ≡ first_feed bytes)
found_at bytes at found =
    let place = place_is (position_or_len feed bytes) (length bytes) at _ refl found in
    (rw (← same_place bytes) place.0, place.1 ∙ same_place bytes)

found_nowhere : (bytes : List ℕ) → (let none : Option ℕ = None in none) ≡ position feed bytes → length bytes ≤ first_feed bytes
found_nowhere bytes none = rw (← same_place bytes) (no_place (position_or_len feed bytes) (length bytes) _ refl none)

-- a line of at most so many bytes stands before the first line feed
pub taken : (bytes : List ℕ) (at : ℕ) → Some at ≡ position feed bytes → at ≤ 1000000
    → IsLine (take at bytes) × (bytes ≡ ended (take at bytes) ++ drop (at + 1) bytes)
taken bytes at found short =
    let place = found_at bytes at found in
    let cut = cut_there bytes place.0 in
    let next : at + 1 ≡ suc (first_feed bytes) = omega (arith, place.1) in
    let long : length (take (first_feed bytes) bytes) ≤ 1000000 = omega (arith, length-take (first_feed bytes) bytes, place.1) in
    rw (next, place.1) (record { no_feed = cut.no_feed; short = long }, cut.parts)

-- where the first line feed stands too far behind, there is no line
pub too_long : (bytes : List ℕ) (at : ℕ) → Some at ≡ position feed bytes → 1000000 < at → HasNoLine bytes
too_long bytes at found far line more is fits =
    let place = found_at bytes at found in
    let here : first_feed bytes ≡ length line = ap first_feed is ∙ feed_behind line more fits.no_feed in
    omega (arith, here, place.1, fits.short)

-- and none where there is no line feed
pub no_feed : (bytes : List ℕ) → (let none : Option ℕ = None in none) ≡ position feed bytes → HasNoLine bytes
no_feed bytes none line more is fits =
    let past = found_nowhere bytes none in
    let here : first_feed bytes ≡ length line = ap first_feed is ∙ feed_behind line more fits.no_feed in
    omega (arith, here, past, ap length is, length-append (ended line) more, length-append line (10 ∷ []))

-- ---- where a run stops

-- a line feed behind no line stands behind more bytes than a line may have
pub far_behind : (bytes : List ℕ) → list_any feed bytes ≡ true → HasNoLine bytes → 1000000 < length bytes
far_behind bytes some none =
    let low = feed_within bytes some in
    let cut = cut_there bytes low in
    ⊎_elim
    (λ far. omega (arith, far, low))
    (λ short. absurd (none (take (first_feed bytes) bytes) (drop (suc (first_feed bytes)) bytes) cut.parts
    (record { no_feed = cut.no_feed; short = omega (arith, short, length-take (first_feed bytes) bytes) })))
    (cases_lt 1000000 (first_feed bytes))
