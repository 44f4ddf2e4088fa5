-- The line of a journal, by the first line of bytes.
use Rattle.std.proofs.Common.{◌≡◌, inl, inr, ℕ, zero, suc, ◌+◌, ◌-◌, ◌^◌, ◌<◌, ◌==◌, Bool, true, false, List, [], ◌∷◌, ◌++◌, length, take, drop, codes, Option, None, Some, Ok, Err, refl, sym, ap, ◌∙◌, arith, length-append}
use Rattle.std.specs.Prelude.{if◌then◌else◌, nat_lt, nat_le, ◌&&◌, option_and_then}
use Rattle.std.specs.Option.{ok_or}
use Rattle.std.specs.List.{join_with_byte}
use Rattle.std.proofs.lemmas.Bool.{cases_lt, eqb-true, lt-ltb, le-ltb, le-leb, lt-leb}
use Rattle.byte_defs.specs.Fields.{◌>>=◌, refuse_if}
use Rattle.byte_defs.specs.Equality.{same_bytes}
use Rattle.text_defs.specs.Words.{number_within, space, words_of}
use Rattle.text_defs.proofs.Lines.{join_words_of}
use Rattle.text_defs.proofs.Tests.{word_is}
use Rattle.text_codec.proofs.Digits.{too_long}
use Rattle.kit_defs.specs.KitReading.{Line}
use Rattle.input_defs.specs.Lines.{line_at, line_within}
use Rattle.input_defs.proofs.FirstLines.{no_short_line}
use Rattle.audit_defs.specs.Inputs.{journals_at, length_of, most_journal_bytes}
use Rattle.audit_input.specs.Places.{Journals, and_then, journals_behind, length_behind, length_within, place}

-- the length, where a journal may come and has room
abbrev fitting : ℕ → ℕ → ℕ → Option ℕ
fitting left room len = if nat_lt 0 left && nat_le len room then Some len else None

-- ---- how long it is

few_most : most_journal_bytes < 2 ^ 32
unfolding most_journal_bytes
few_most = omega arith

long_words : (words : List (List ℕ)) → 18 < length (join_with_byte space words) → length_of words ≡ None
long_words [] long = refl
long_words (word ∷ []) long = refl
long_words (word ∷ number ∷ next ∷ words) long = refl
long_words (word ∷ number ∷ []) long = of (same_bytes word (codes "journal")) refl
  where
    of : (t : Bool) → same_bytes word (codes "journal") ≡ t → (if t then number_within 0 most_journal_bytes number else None) ≡ None
    of false is = refl
    of true is =
        let seven : length word ≡ 7 = ap length (word_is word (codes "journal") is) in
        let all : 18 < length (word ++ space ∷ number) = long in
        let more : 10 < length number = omega (arith, all, length-append word (space ∷ number), seven) in
        sym (too_long 0 most_journal_bytes number more few_most)

long_line : (left room : ℕ) (line : List ℕ) → 18 < length line → length_within left room line ≡ None
long_line left room line long =
    let is : length (join_with_byte space (words_of line)) ≡ length line = ap length (join_words_of line) in
    let none : length_of (words_of line) ≡ None = long_words (words_of line) (omega (arith, long, is)) in
    ap (option_and_then (fitting left room)) none

-- ---- what it gives

-- what is read on from these bytes, behind a line of this length, or behind one that is none
abbrev pub goes_on : ℕ → ℕ → ℕ → Option ℕ → List ℕ → Journals
goes_on left n room None rest = Err (Line n)
goes_on left n room (Some len) rest = journals_behind len (place left n room []) rest

-- so many bytes are a journal, where they are there
abbrev whole : ℕ → ℕ → ℕ → ℕ → List ℕ → Bool → Journals
whole left n room len rest cut = if cut then Err (Line n) else and_then (take len rest ∷ []) (journals_at left (n + 1) (room - len) (drop len rest))

abbrev if_whole : ℕ → ℕ → ℕ → ℕ → List ℕ → Bool → Journals
if_whole left n room len rest cut =
    refuse_if cut (Line n) >>= λ _. journals_at left (n + 1) (room - len) (drop len rest) >>= λ others. Ok (take len rest ∷ others)

is_whole : (left n room len : ℕ) (rest : List ℕ) (cut : Bool) → if_whole left n room len rest cut ≡ whole left n room len rest cut
is_whole left n room len rest true = refl
is_whole left n room len rest false = refl

-- where the journal has its room
abbrev if_room : ℕ → ℕ → ℕ → ℕ → List ℕ → Bool → Journals
if_room left n room len rest much = refuse_if much (Line n) >>= λ _. if_whole left n room len rest (nat_lt (length rest) len)

roomy : (left n room len : ℕ) (rest : List ℕ)
    → if_room left n room len rest (nat_lt room len) ≡ goes_on (suc left) n room (fitting (suc left) room len) rest
roomy left n room len rest = elim (cases_lt room len) [
  | inl much ↦ ap (if_room left n room len rest) (lt-ltb room len much) ∙ ap taken (sym (both (nat_le len room) false (lt-leb len room much)))
  | inr fits ↦ ap (if_room left n room len rest) (le-ltb room len fits)
      ∙ is_whole left n room len rest (nat_lt (length rest) len)
      ∙ ap (λ (k : ℕ). whole k n room len rest (nat_lt (length rest) len)) (sym one_less)
      ∙ ap taken (sym (both (nat_le len room) true (le-leb len room fits)))
]
  where
    one_less : suc left - 1 ≡ left
    one_less = omega arith

    both : (a b : Bool) → a ≡ b → (nat_lt 0 (suc left) && a) ≡ (true && b)
    both a b e = λ i. lt-ltb 0 (suc left) (omega arith) i && e i

    taken : Bool → Journals
    taken t = goes_on (suc left) n room (if t then Some len else None) rest

none_left : (n room : ℕ) (o : Option ℕ) (rest : List ℕ) → goes_on zero n room (option_and_then (fitting zero room) o) rest ≡ Err (Line n)
none_left n room None rest = refl
none_left n room (Some len) rest = refl

by_length : (left n room : ℕ) (rest : List ℕ) (o : Option ℕ)
    → (ok_or o (Line n) >>= λ len. if_room left n room len rest (nat_lt room len))
    ≡ goes_on (suc left) n room (option_and_then (fitting (suc left) room) o) rest
by_length left n room rest None = refl
by_length left n room rest (Some len) = roomy left n room len rest

-- by the first line
abbrev after_line : ℕ → ℕ → ℕ → Option (List ℕ × List ℕ) → Journals
after_line left n room found =
    ok_or found (Line n) >>= λ line. ok_or (length_of (words_of line.0)) (Line n) >>= λ len. if_room left n room len line.1 (nat_lt room len)

-- the first line decides
pub line_read : (left n room : ℕ) (bytes line rest : List ℕ) → line_at bytes ≡ Some (line, rest)
    → journals_at left n room bytes ≡ goes_on left n room (length_within left room line) rest
unfolding journals_at
line_read left n room [] line rest e = absurd cc
line_read zero n room (c ∷ bytes) line rest e = sym (none_left n room (length_of (words_of line)) rest)
line_read (suc left) n room (c ∷ bytes) line rest e = ap (after_line left n room) e ∙ by_length left n room rest (length_of (words_of line))

no_line : (left n room : ℕ) (bytes : List ℕ) → 0 < length bytes → line_at bytes ≡ None → journals_at left n room bytes ≡ Err (Line n)
unfolding journals_at
no_line left n room [] some e = absurd (omega (arith, some))
no_line zero n room (c ∷ bytes) some e = refl
no_line (suc left) n room (c ∷ bytes) some e = ap (after_line left n room) e

-- bytes that begin with no line of so many bytes at most
pub bad_line : (left n room : ℕ) (bytes : List ℕ) → 0 < length bytes → line_within 18 bytes ≡ None
    → journals_at left n room bytes ≡ Err (Line n)
bad_line left n room bytes some none = elim (no_short_line 18 bytes none) [
  | inl nowhere ↦ no_line left n room bytes some nowhere
  | inr found ↦ line_read left n room bytes found.0.0 found.0.1 found.1
      ∙ ap (λ (o : Option ℕ). goes_on left n room o found.0.1) (long_line left room found.0.0 found.2)
]

pub nothing_left : (left n room : ℕ) → journals_at left n room [] ≡ Ok []
unfolding journals_at
nothing_left zero n room = refl
nothing_left (suc left) n room = refl

-- the only word behind `journal` is the length
pub one_number : (words rest : List (List ℕ)) (word : List ℕ) (done : Bool) (r : Option ℕ) → words ≡ word ∷ rest → done ≡ (length rest == 0)
    → done ≡ true → r ≡ number_within 0 1073741824 word → r ≡ length_behind words
unfolding most_journal_bytes
one_number words [] word done r is d t n = n ∙ ap length_behind (sym is)
one_number words (next ∷ rest) word done r is d t n = absurd (omega (arith, eqb-true (length (next ∷ rest)) 0 (sym d ∙ t)))
