-- The first line of bytes to which more come.
use Rattle.std.proofs.Common.{◌≡◌, ◌⊎◌, inl, inr, ℕ, ◌+◌, ◌<◌, ◌≤◌, ◌==◌, Bool, true, false, List, [], ◌∷◌, ◌++◌, length, Option, None, Some, refl, sym, ap, ◌∙◌, arith, length-append}
use Rattle.std.specs.Prelude.{if◌then◌else◌, nat_le, option_map}
use Rattle.std.proofs.lemmas.Bool.{leb-false, lt-leb}
use Rattle.input_defs.specs.Lines.{line_at, line_within, if_short}

abbrev Line : Type 0
Line = List ℕ × List ℕ

map_found : (f : Line → Line) (o : Option Line) (y : Line) → option_map f o ≡ Some y → (x : Line) × (o ≡ Some x) × (f x ≡ y)
map_found f (Some x) y e = (x, refl, cc)
map_found f None y e = absurd cc

some_is : (x y : Line) → Some x ≡ Some y → x ≡ y
some_is x y e = cc

map_none : (f : Line → Line) (o : Option Line) → option_map f o ≡ None → o ≡ None
map_none f (Some x) e = absurd cc
map_none f None e = refl

abbrev onto : ℕ → Line → Line
onto c l = (c ∷ l.0, l.1)

-- what the first byte tells: the line is empty, or goes on with it
pub line_by_byte : (c : ℕ) (more : List ℕ) (line rest : List ℕ) → line_at (c ∷ more) ≡ Some (line, rest)
    → (((c == 10) ≡ true) × (line ≡ []) × (rest ≡ more))
    ⊎ ((l : List ℕ) × ((c == 10) ≡ false) × (line_at more ≡ Some (l, rest)) × (line ≡ c ∷ l))
line_by_byte c more line rest e = of (c == 10) refl e
  where
    of : (t : Bool) → (c == 10) ≡ t → line_at (c ∷ more) ≡ Some (line, rest)
        → (((c == 10) ≡ true) × (line ≡ []) × (rest ≡ more))
        ⊎ ((l : List ℕ) × ((c == 10) ≡ false) × (line_at more ≡ Some (l, rest)) × (line ≡ c ∷ l))
    of true t e =
        let same = some_is ([], more) (line, rest) (rw t at e) in
        inl (t, sym (ap (λ (l : Line). l.0) same), sym (ap (λ (l : Line). l.1) same))
    of false t e =
        let found = map_found (onto c) (line_at more) (line, rest) (rw t at e) in
        let left : found.0.1 ≡ rest = ap (λ (l : Line). l.1) found.2 in
        inr (found.0.0, t, found.1 ∙ ap (λ (r : List ℕ). Some (found.0.0, r)) left, sym (ap (λ (l : Line). l.0) found.2))

-- the line is one again, whatever comes after its line feed
pub line_again : (bytes line rest more : List ℕ) → line_at bytes ≡ Some (line, rest) → line_at (line ++ 10 ∷ more) ≡ Some (line, more)
line_again [] line rest more e = absurd cc
line_again (c ∷ bytes) line rest more e = elim (line_by_byte c bytes line rest e) [
  | inl here ↦ rw here.1 refl
  | inr there ↦ let again = line_again bytes there.0 rest more there.2 in rw (there.3, there.1, again) refl
]

-- and it stays the first line, whatever comes after the bytes
pub line_stays : (bytes line rest more : List ℕ) → line_at bytes ≡ Some (line, rest) → line_at (bytes ++ more) ≡ Some (line, rest ++ more)
line_stays [] line rest more e = absurd cc
line_stays (c ∷ bytes) line rest more e = elim (line_by_byte c bytes line rest e) [
  | inl here ↦ rw (here.0, here.1, here.2) refl
  | inr there ↦ let stays = line_stays bytes there.0 rest more there.2 in rw (there.1, stays, there.3) refl
]

pub no_line_by_byte : (c : ℕ) (more : List ℕ) → line_at (c ∷ more) ≡ None → ((c == 10) ≡ false) × (line_at more ≡ None)
no_line_by_byte c more e = of (c == 10) refl e
  where
    of : (t : Bool) → (c == 10) ≡ t → line_at (c ∷ more) ≡ None → ((c == 10) ≡ false) × (line_at more ≡ None)
    of true t e = let none = rw t at e in absurd cc
    of false t e = (t, map_none (onto c) (line_at more) (rw t at e))

-- bytes without a line are the front of the first line, where one comes
pub longer : (bytes more line rest : List ℕ) → line_at bytes ≡ None → line_at (bytes ++ more) ≡ Some (line, rest)
    → length bytes ≤ length line
longer [] more line rest none e = omega arith
longer (c ∷ bytes) more line rest none e =
    let past = no_line_by_byte c bytes none in
    elim (line_by_byte c (bytes ++ more) line rest e) [
      | inl here ↦ let both : true ≡ false = sym here.0 ∙ past.0 in absurd cc
      | inr there ↦ let more_bytes = longer bytes more there.0 rest past.1 there.2 in omega (arith, more_bytes, ap length there.3)
    ]

-- ---- of at most so many bytes

not_short : (most : ℕ) (l : Line) → if_short most l ≡ None → most < length l.0
not_short most l e = of (nat_le (length l.0) most) refl e
  where
    of : (t : Bool) → nat_le (length l.0) most ≡ t → (if t then Some l else None) ≡ None → most < length l.0
    of true t e = absurd cc
    of false t e = leb-false (length l.0) most t

is_long : (most : ℕ) (l : Line) → most < length l.0 → if_short most l ≡ None
is_long most l big = rw (lt-leb (length l.0) most big) refl

-- there is no such line: none at all, or it is longer
pub no_short_line : (most : ℕ) (bytes : List ℕ) → line_within most bytes ≡ None
    → (line_at bytes ≡ None) ⊎ ((l : Line) × (line_at bytes ≡ Some l) × (most < length l.0))
no_short_line most bytes e = of (line_at bytes) refl
  where
    of : (o : Option Line) → line_at bytes ≡ o → (line_at bytes ≡ None) ⊎ ((l : Line) × (line_at bytes ≡ Some l) × (most < length l.0))
    of None is = inl is
    of (Some l) is = inr (l, is, not_short most l (rw is at e))

-- it stays so, where there are more bytes than such a line has
pub none_longer : (most : ℕ) (bytes more : List ℕ) → line_within most bytes ≡ None → most < length bytes
    → line_within most (bytes ++ more) ≡ None
none_longer most bytes more e long = elim (no_short_line most bytes e) [
  | inl none ↦ of none (line_at (bytes ++ more)) refl
  | inr found ↦ let stays = line_stays bytes found.0.0 found.0.1 more found.1 in rw stays (is_long most (found.0.0, found.0.1 ++ more) found.2)
]
  where
    of : line_at bytes ≡ None → (o : Option Line) → line_at (bytes ++ more) ≡ o → line_within most (bytes ++ more) ≡ None
    of none None is = rw is refl
    of none (Some l) is =
        let big = longer bytes more l.0 l.1 none is in
        rw is (is_long most l (omega (arith, big, long)))

-- a line of at most so many bytes is the first line
pub short_is_first : (most : ℕ) (bytes line rest : List ℕ) → line_within most bytes ≡ Some (line, rest) → line_at bytes ≡ Some (line, rest)
short_is_first most bytes line rest e = of (line_at bytes) refl e
  where
    pick : (t : Bool) (l : Line) → (if t then Some l else None) ≡ Some (line, rest) → Some l ≡ Some (line, rest)
    pick true l e = e
    pick false l e = absurd cc

    of : (o : Option Line) → line_at bytes ≡ o → line_within most bytes ≡ Some (line, rest) → line_at bytes ≡ Some (line, rest)
    of None is e = let none = rw is at e in absurd cc
    of (Some l) is e = is ∙ pick (nat_le (length l.0) most) l (rw is at e)
