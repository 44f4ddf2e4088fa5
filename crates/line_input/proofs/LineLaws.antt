-- The first line of bytes.
use Rattle.std.proofs.Common.{◌≡◌, ℕ, zero, suc, ◌+◌, ◌-◌, ◌<◌, ◌≤◌, ◌==◌, Bool, true, false, not, List, [], ◌∷◌, length, take, drop, Option, None, Some, true≢false, refl, sym, ◌∙◌, arith, ⊎_elim}
use Rattle.std.specs.Prelude.{nat_lt, if◌then◌else◌, ◌||◌}
use Rattle.std.proofs.lemmas.Bool.{ltb-true, ltb-false, le-leb, lt-leb, cases_lt}
use Rattle.std.proofs.lemmas.List.{length-take-le, drop-drop}
use Rattle.std.specs.List.{list_any, position, position_or_len, slice_range}
use Rattle.input_defs.specs.Lines.{line_at, line_within, if_short}

abbrev feed : ℕ → Bool
feed b = b == 10

-- the place of the first line feed, or the length
abbrev first_feed : List ℕ → ℕ
first_feed [] = 0
first_feed (b ∷ bytes) = if feed b then 0 else suc (first_feed bytes)

same_place : (bytes : List ℕ) → position_or_len feed bytes ≡ first_feed bytes
same_place [] = refl
same_place (b ∷ bytes) = of (feed b) (same_place bytes)
  where
    of : (t : Bool) → position_or_len feed bytes ≡ first_feed bytes
        → (if not t then 1 + position_or_len feed bytes else 0) ≡ (if t then 0 else suc (first_feed bytes))
    of true e = refl
    of false e = omega (arith, e)

-- where it is among the bytes, the first line ends there
line_there : (bytes : List ℕ) → first_feed bytes < length bytes
    → line_at bytes ≡ Some (take (first_feed bytes) bytes, drop (suc (first_feed bytes)) bytes)
line_there [] low = absurd (omega arith)
line_there (b ∷ bytes) low = of (line_there bytes) (b == 10) refl low
  where
    of : (first_feed bytes < length bytes → line_at bytes ≡ Some (take (first_feed bytes) bytes, drop (suc (first_feed bytes)) bytes))
        → (t : Bool) → (b == 10) ≡ t → first_feed (b ∷ bytes) < length (b ∷ bytes)
        → line_at (b ∷ bytes) ≡ Some (take (first_feed (b ∷ bytes)) (b ∷ bytes), drop (suc (first_feed (b ∷ bytes))) (b ∷ bytes))
    of rest true e low = rw e refl
    of rest false e low = let there = rest (omega (arith, rw e at low)) in rw (e, there) refl

-- where it is none of them, there is no line
line_nowhere : (bytes : List ℕ) → length bytes ≤ first_feed bytes → line_at bytes ≡ None
line_nowhere [] past = refl
line_nowhere (b ∷ bytes) past = of (line_nowhere bytes) (b == 10) refl past
  where
    of : (length bytes ≤ first_feed bytes → line_at bytes ≡ None) → (t : Bool) → (b == 10) ≡ t
        → length (b ∷ bytes) ≤ first_feed (b ∷ bytes) → line_at (b ∷ bytes) ≡ None
    of rest true e past = absurd (omega (arith, rw e at past))
    of rest false e past = let none = rest (omega (arith, rw e at past)) in rw (e, none) refl

feed_behind : (n : ℕ) (bytes : List ℕ) → list_any feed (drop n bytes) ≡ true → list_any feed bytes ≡ true
feed_behind zero bytes some = some
feed_behind (suc n) [] some = some
feed_behind (suc n) (b ∷ bytes) some = of (b == 10) (feed_behind n bytes some)
  where
    of : (t : Bool) → list_any feed bytes ≡ true → (t || list_any feed bytes) ≡ true
    of true more = refl
    of false more = more

feed_before : (n : ℕ) (bytes : List ℕ) → list_any feed (take n bytes) ≡ true → list_any feed bytes ≡ true
feed_before zero bytes some = absurd cc
feed_before (suc n) [] some = some
feed_before (suc n) (b ∷ bytes) some = of (b == 10) (feed_before n bytes) some
  where
    of : (t : Bool) → (list_any feed (take n bytes) ≡ true → list_any feed bytes ≡ true) → (t || list_any feed (take n bytes)) ≡ true
        → (t || list_any feed bytes) ≡ true
    of true more e = refl
    of false more e = more e

-- a line feed that is found among some of the bytes is among them
pub feed_among : (bytes : List ℕ) (from to : ℕ) → list_any feed (slice_range bytes from to) ≡ true → list_any feed bytes ≡ true
feed_among bytes from to some = feed_behind from bytes (feed_before (to - from) (drop from bytes) some)

feed_within : (bytes : List ℕ) → list_any feed bytes ≡ true → first_feed bytes < length bytes
feed_within [] some = absurd cc
feed_within (b ∷ bytes) some = of (feed_within bytes) (b == 10) refl
  where
    of : (list_any feed bytes ≡ true → first_feed bytes < length bytes) → (t : Bool) → (b == 10) ≡ t
        → first_feed (b ∷ bytes) < suc (length bytes)
    of within true e = rw e (omega arith)
    of within false e = let low = within (rw e at some) in rw e (omega arith)

-- ---- what `position` tells

place_is : (p l i : ℕ) (b : Bool) → nat_lt p l ≡ b → Some i ≡ (if b then Some p else None) → (p < l) × (i ≡ p)
place_is p l i true e h = (omega (arith, ltb-true p l e), cc)
place_is p l i false e h = absurd cc

no_place : (p l : ℕ) (b : Bool) → nat_lt p l ≡ b → (let none : Option ℕ = None in none) ≡ (if b then Some p else None) → l ≤ p
no_place p l true e h = absurd cc
no_place p l false e h = omega (arith, ltb-false p l e)

found_at : (bytes : List ℕ) (at : ℕ) → Some at ≡ position feed bytes → (first_feed bytes < length bytes) × (at ≡ first_feed bytes)
found_at bytes at found =
    let place = place_is (position_or_len feed bytes) (length bytes) at _ refl found in
    (rw (← same_place bytes) place.0, place.1 ∙ same_place bytes)

found_nowhere : (bytes : List ℕ) → (let none : Option ℕ = None in none) ≡ position feed bytes → length bytes ≤ first_feed bytes
found_nowhere bytes none = rw (← same_place bytes) (no_place (position_or_len feed bytes) (length bytes) _ refl none)

-- ---- of at most so many bytes

short : (most n : ℕ) (line rest : List ℕ) → length line ≡ n → n ≤ most → if_short most (line, rest) ≡ Some (line, rest)
short most n line rest long few = let small : length line ≤ most = omega arith in rw (le-leb (length line) most small) refl

long : (most n : ℕ) (line rest : List ℕ) → length line ≡ n → most < n → if_short most (line, rest) ≡ None
long most n line rest size many = let big : most < length line = omega arith in rw (lt-leb (length line) most big) refl

-- a line of at most so many bytes ends at the first line feed
pub taken : (most : ℕ) (bytes : List ℕ) (at : ℕ) → Some at ≡ position feed bytes → at ≤ most
    → line_within most bytes ≡ Some (take at bytes, drop (at + 1) bytes)
taken most bytes at found few =
    let place = found_at bytes at found in
    let there = line_there bytes place.0 in
    let next : at + 1 ≡ suc (first_feed bytes) = omega (arith, place.1) in
    let size : length (take (first_feed bytes) bytes) ≡ first_feed bytes = length-take-le (first_feed bytes) bytes (omega (arith, place.0)) in
    rw (next, place.1, there) (short most (first_feed bytes) _ _ size (omega (arith, place.1)))

-- where the first line feed is too far away, there is none
pub too_long : (most : ℕ) (bytes : List ℕ) (at : ℕ) → Some at ≡ position feed bytes → most < at → line_within most bytes ≡ None
too_long most bytes at found far =
    let place = found_at bytes at found in
    let there = line_there bytes place.0 in
    let size : length (take (first_feed bytes) bytes) ≡ first_feed bytes = length-take-le (first_feed bytes) bytes (omega (arith, place.0)) in
    rw there (long most (first_feed bytes) _ _ size (omega (arith, place.1)))

-- and none where there is no line feed
pub no_feed : (most : ℕ) (bytes : List ℕ) → (let none : Option ℕ = None in none) ≡ position feed bytes → line_within most bytes ≡ None
no_feed most bytes none = rw (line_nowhere bytes (found_nowhere bytes none)) refl

-- a line feed that ends no such line comes after more bytes than it may have
pub far_away : (most : ℕ) (bytes : List ℕ) → list_any feed bytes ≡ true → line_within most bytes ≡ None → most < length bytes
far_away most bytes some none =
    let low = feed_within bytes some in
    let there = line_there bytes low in
    let size : length (take (first_feed bytes) bytes) ≡ first_feed bytes = length-take-le (first_feed bytes) bytes (omega (arith, low)) in
    ⊎_elim
    (λ far. omega (arith, far, low))
    (λ near. let found = short most (first_feed bytes) (take (first_feed bytes) bytes) (drop (suc (first_feed bytes)) bytes) size near in absurd (apart none there found))
    (cases_lt most (first_feed bytes))
  where
    apart : line_within most bytes ≡ None → line_at bytes ≡ Some (take (first_feed bytes) bytes, drop (suc (first_feed bytes)) bytes)
        → if_short most (take (first_feed bytes) bytes, drop (suc (first_feed bytes)) bytes)
        ≡ Some (take (first_feed bytes) bytes, drop (suc (first_feed bytes)) bytes) → ⊥
    apart none there found = let is = rw there at none in absurd cc

-- ---- among bytes of which the first were taken

-- what was taken reaches to this place, and these bytes are ahead
module _ (most : ℕ) (all ahead : List ℕ) (next : ℕ) (is : ahead ≡ drop next all) where
  pub taken_behind : (end : ℕ) → Some end ≡ position feed ahead → end ≤ most
      → line_within most ahead ≡ Some (slice_range all next (next + end), drop (next + end + 1) all)
  taken_behind end found few =
      let line = taken most ahead end found few in
      let size : next + end - next ≡ end = omega arith in
      let place : next + end + 1 ≡ next + (end + 1) = omega arith in
      rw (size, place, ← drop-drop (end + 1) next all, ← is) line

pub some_bytes : (bytes : List ℕ) (empty : Bool) → empty ≡ (length bytes == 0) → empty ≡ false → 0 < length bytes
some_bytes [] empty e f = absurd (true≢false (sym e ∙ f))
some_bytes (b ∷ bytes) empty e f = omega arith

pub found_some : (bytes : List ℕ) (at : ℕ) → Some at ≡ position feed bytes → 0 < length bytes
found_some bytes at found = let place = found_at bytes at found in omega (arith, place.0)
