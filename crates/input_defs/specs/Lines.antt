-- An input line by line. What comes after a line need not be text.
use Rattle.std.specs.Prelude.{ℕ, ◌==◌, nat_le, if◌then◌else◌, List, [], ◌∷◌, length, Option, Some, None, option_map, option_and_then}
use Rattle.kit_defs.specs.Below.{line_feed}

-- the first line without its line feed, and the bytes after that; none where no line feed is there
abbrev pub line_at : List ℕ → Option (List ℕ × List ℕ)
line_at [] = None
line_at (c ∷ more) = if c == line_feed then Some ([], more) else option_map (λ l. (c ∷ l.0, l.1)) (line_at more)

-- the line, where it has at most `most` bytes
abbrev pub if_short : ℕ → List ℕ × List ℕ → Option (List ℕ × List ℕ)
if_short most l = if nat_le (length l.0) most then Some l else None

-- the first line, where it has at most `most` bytes
abbrev pub line_within : ℕ → List ℕ → Option (List ℕ × List ℕ)
line_within most bytes = option_and_then (if_short most) (line_at bytes)
