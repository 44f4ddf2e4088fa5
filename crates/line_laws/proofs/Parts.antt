-- The parts of a text by its first line.
use Rattle.std.proofs.Common.{◌≡◌, inl, inr, ℕ, ◌==◌, Bool, true, false, List, [], ◌∷◌, None, Some, refl}
use Rattle.std.specs.Prelude.{if◌then◌else◌}
use Rattle.std.specs.List.{onto_first}
use Rattle.text_defs.specs.Words.{line_feed, parts_of}
use Rattle.input_defs.specs.Lines.{line_at}
use Rattle.input_defs.proofs.FirstLines.{line_by_byte, no_line_by_byte}

-- the first line is the first part
pub parts_by_line : (bytes line rest : List ℕ) → line_at bytes ≡ Some (line, rest) → parts_of bytes ≡ line ∷ parts_of rest
parts_by_line [] line rest e = absurd cc
parts_by_line (c ∷ bytes) line rest e = elim (line_by_byte c bytes line rest e) [
  | inl here ↦ rw (here.0, here.1, here.2) refl
  | inr there ↦ let more = parts_by_line bytes there.0 rest there.2 in rw (there.1, more, there.3) refl
]

-- without a line the text is one part
pub one_part : (bytes : List ℕ) → line_at bytes ≡ None → parts_of bytes ≡ bytes ∷ []
one_part [] e = refl
one_part (c ∷ bytes) e =
    let past = no_line_by_byte c bytes e in
    let more = one_part bytes past.1 in
    rw (past.0, more) refl

-- there is always a part
pub parts_some : (bytes : List ℕ) → (first : List ℕ) × (others : List (List ℕ)) × (parts_of bytes ≡ first ∷ others)
parts_some [] = ([], [], refl)
parts_some (c ∷ bytes) = of (c == line_feed) (parts_some bytes)
  where
    of : (t : Bool) → (first : List ℕ) × (others : List (List ℕ)) × (parts_of bytes ≡ first ∷ others)
        → (first : List ℕ) × (others : List (List ℕ))
        × ((if t then [] ∷ parts_of bytes else onto_first c (parts_of bytes)) ≡ first ∷ others)
    of true some = ([], parts_of bytes, refl)
    of false some = (c ∷ some.0, some.1, rw some.2 refl)
