-- Bytes that are read ahead.
use Rattle.std.specs.Prelude.{◌≡◌, ℕ, ◌==◌, true, List, ◌++◌, Option}
use Rattle.std.specs.List.{list_any}
use Rattle.std.specs.Io.KnownBytes.{Consumes}

-- more bytes were read, after those that were ahead
abbrev pub ReadOn : Option (List ℕ) → Option (List ℕ) → List ℕ → List ℕ → Type 0
ReadOn before now ahead ahead' = (more : List ℕ) × Consumes before now more × (ahead' ≡ ahead ++ more)

-- a line feed is among them
abbrev pub HasFeed : List ℕ → Type 0
HasFeed bytes = list_any (λ b. b == 10) bytes ≡ true
