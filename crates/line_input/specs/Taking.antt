-- Lines taken from the front of an input, and what comes where there is none.
use Rattle.std.specs.Prelude.{◌≡◌, ◌⊎◌, ℕ, ◌<◌, ◌==◌, true, List, [], ◌++◌, length, Option, Some, None}
use Rattle.std.specs.List.{list_any}
use Rattle.std.specs.Io.KnownBytes.{Consumes, IsAtEnd}
use Rattle.input_defs.specs.Lines.{line_within}
use Rattle.line_input.specs.declared.lines.Next.{Next}
use Rattle.line_input.specs.declared.lines.Next.TheVariants.{Line, Broken, End}

-- the line that was taken last, and the bytes that were read and not yet taken
pub record Taken : Type 0 where
  pub line : List ℕ
  pub ahead : List ℕ

-- These are the bytes that were ahead, and those that were read since: by what the source had left before and has left now.
abbrev pub ReadOn : Option (List ℕ) → Option (List ℕ) → List ℕ → List ℕ → Type 0
ReadOn before now ahead bytes = (more : List ℕ) × Consumes before now more × (bytes ≡ ahead ++ more)

-- a line feed is among them
abbrev pub HasFeed : List ℕ → Type 0
HasFeed bytes = list_any (λ b. b == 10) bytes ≡ true

-- What a reader has taken and still has ahead, of bytes that are all ahead at first.
--   Line: the first line, of at most `most` bytes, and those after its line feed
--   Broken: they begin with no such line, and stay ahead
--   End: there are none
abbrev pub Takes : ℕ → List ℕ → Taken → Next → Type 0
Takes most bytes l Line = line_within most bytes ≡ Some (l.line, l.ahead)
Takes most bytes l Broken = (line_within most bytes ≡ None) × (0 < length bytes) × (l.ahead ≡ bytes)
Takes most bytes l End = (bytes ≡ []) × (l.ahead ≡ [])

-- Whatever the source has left makes no line of the bytes: they are more than a line has, or the source is at its end.
abbrev pub IsLast : ℕ → Option (List ℕ) → List ℕ → Next → Type 0
IsLast most now bytes Line = Unit {0}
IsLast most now bytes Broken = (most < length bytes) ⊎ IsAtEnd now
IsLast most now bytes End = IsAtEnd now

-- `count` bytes were taken as they came, or all that came before the input ended, which are fewer; these are ahead now.
abbrev pub TakesBytes : ℕ → Option (List ℕ) → Option (List ℕ) → List ℕ → List ℕ → Option (List ℕ) → Type 0
TakesBytes count before now ahead left (Some bytes) = (length bytes ≡ count) × ReadOn before now ahead (bytes ++ left)
TakesBytes count before now ahead left None = (bytes : List ℕ) × (length bytes < count) × ReadOn before now ahead bytes × (left ≡ []) × IsAtEnd now

-- A reader has read on, to these bytes, and then answered this: by what the source had left before and has left now, and by what was ahead.
pub record Answered (most : ℕ) (before now : Option (List ℕ)) (ahead : List ℕ) (l : Taken) (next : Next) : Type 0 where
  pub bytes : List ℕ
  pub read : ReadOn before now ahead bytes
  pub takes : Takes most bytes l next
  pub last : IsLast most now bytes next
