-- What a read of the script gives.
use Rattle.std.specs.Prelude.{◌≡◌, ◌⊎◌, ℕ, ◌≤◌, max, List, Some, None, IsTrue}
use Rattle.std.specs.Str.{is_utf8}
use Rattle.byte_defs.specs.Members.{has}
use Rattle.node_defs.specs.Scripts.{Line, Of, Snap, Said, Receive, Other, line_said}
use Rattle.node_defs.specs.Lines.{Stop, Ended, NoMemory, ReadFailed, BadLine}
use Rattle.node_traces.specs.Outside.{SourceSeen, SourceTook, SourceBroke, SourceEnded, SourceFailed}

-- how many bytes a line of a node's script has at most, where no service takes longer ones
unfoldable pub most_line_bytes : ℕ
most_line_bytes = 70000

-- the same, where a line for the service has `longest` at most
abbrev pub line_limit : ℕ → ℕ
line_limit longest = max most_line_bytes longest

-- no line was taken, where the one that comes next has this number; a line has at most `most` bytes
abbrev pub TakesNone : ℕ → ℕ → SourceSeen → SourceSeen → Stop → Type 0
TakesNone most number k l Ended = SourceEnded k l
TakesNone most number k l ReadFailed = SourceFailed k l
TakesNone most number k l NoMemory = k ≡ l
TakesNone most number k l (BadLine n) = (n ≡ number) × SourceBroke most k l
TakesNone most number k l _ = ⊥

-- a line was taken that P holds of, and its number is given
pub record TakesBad (P : List ℕ → Type 0) (most number : ℕ) (k l : SourceSeen) (why : Stop) : Type 0 where
  pub line : List ℕ
  pub took : SourceTook most k l line
  pub bad : P line
  pub reported : why ≡ BadLine number

-- no line was taken, or one that asks for nothing
abbrev pub AsksNone : ℕ → List ℕ → ℕ → SourceSeen → SourceSeen → Stop → Type 0
AsksNone most hosted number k l why = TakesNone most number k l why ⊎ TakesBad (λ line. line_said hosted line ≡ None) most number k l why

-- no line was taken, or one too many
abbrev pub EndsAfter : ℕ → ℕ → SourceSeen → SourceSeen → Stop → Type 0
EndsAfter most number k l why = TakesNone most number k l why ⊎ TakesBad (λ line. Unit {0}) most number k l why

-- this line was taken, which asks for this
pub record Asks (most : ℕ) (hosted : List ℕ) (k l : SourceSeen) (line : List ℕ) (said : Line) : Type 0 where
  pub took : SourceTook most k l line
  pub says : line_said hosted line ≡ Some said

-- whom the line asks is hosted; it asks for 1 to 1,000 datagrams; and for the service it is text
abbrev pub IsRange : List ℕ → Said → Type 0
IsRange line (Receive most) = (1 ≤ most) × (most ≤ 1000)
IsRange line Other = IsTrue (is_utf8 line)
IsRange line _ = Unit {0}

abbrev pub IsFor : List ℕ → List ℕ → Line → Type 0
IsFor hosted line (Of p said) = IsTrue (has hosted p) × IsRange line said
IsFor hosted line Snap = Unit {0}
