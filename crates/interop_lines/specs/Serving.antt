-- Lines of an input, and what is written for them.
-- Names here (* for this crate alone):
--   IsLine*, ended*, Served*, HasServed*, HasNoLine*, HasNoQuestion*, AllServed*, SomeServed*, ServedInPart*, ServedAndSays*, Refused*
use Rattle.std.specs.Prelude.{◌≡◌, ◌⊎◌, ℕ, suc, ◌<◌, ◌≤◌, ◌==◌, false, List, [], ◌++◌, length, Option, codes}
use Rattle.std.specs.List.{list_any}
use Rattle.std.specs.Io.KnownBytes.{Appends, Consumes, IsAtEnd}
use Rattle.rp_base.specs.Streams.{AppendsPrefix, WritesLine}
use Rattle.interop_lines.specs.Stops.{line_of}
use Rattle.interop_lines.specs.declared.stops.Stop.{Stop}
use Rattle.interop_lines.specs.declared.stops.Stop.TheVariants.{Line}
use Rattle.interop_runs.specs.Runs.{Runs}
use Rattle.interop_lines.specs.Lines.{Answers}

-- a line has no line feed in it, and isn't too long
pub record IsLine (line : List ℕ) : Type 0 where
  pub no_feed : list_any (λ b. b == 10) line ≡ false
  pub short : length line ≤ 1000000

-- with its line feed
abbrev pub ended : List ℕ → List ℕ
ended line = line ++ codes "\n"

-- Lines, how many they are, and what is written for them: the answer to each, on a line.
pub data Served (R : Runs) : ℕ → List ℕ → List ℕ → Type 0 where
  Nothing : Served R 0 [] []
  OneMore : (n : ℕ) (input output line reported : List ℕ) → Served R n input output → IsLine line → Answers R line reported
      → Served R (suc n) (input ++ ended line) (output ++ ended reported)

-- By what a source had left before and what it has left now, and by what a sink held before and holds now: n lines
-- were served, and these bytes were read after them.
pub record HasServed (R : Runs) (n : ℕ) (ahead : List ℕ) (before now old new : Option (List ℕ)) : Type 0 where
  pub input : List ℕ
  pub output : List ℕ
  pub served : Served R n input output
  pub taken : Consumes before now (input ++ ahead)
  pub written : Appends old new output

-- no line is at the front of the bytes
abbrev pub HasNoLine : List ℕ → Type 0
HasNoLine bytes = (line more : List ℕ) → bytes ≡ ended line ++ more → ¬ IsLine line

-- The bytes, and whatever the source may have left, begin with a line that is no question, or with no line.
abbrev pub HasNoQuestion : Runs → List ℕ → Option (List ℕ) → Type 0
HasNoQuestion R bytes now =
    ((line more : List ℕ) × (bytes ≡ ended line ++ more) × IsLine line × ((reported : List ℕ) → ¬ Answers R line reported))
    ⊎ (HasNoLine bytes × (0 < length bytes) × ((1000000 < length bytes) ⊎ IsAtEnd now))

-- all lines were served
abbrev pub AllServed : Runs → Option (List ℕ) → Option (List ℕ) → Option (List ℕ) → Option (List ℕ) → Type 0
AllServed R before now old new = (n : ℕ) × HasServed R n [] before now old new × IsAtEnd now

-- some lines were served, and the rest was not
abbrev pub SomeServed : Runs → Option (List ℕ) → Option (List ℕ) → Option (List ℕ) → Option (List ℕ) → Type 0
SomeServed R before now old new = (n : ℕ) × (ahead : List ℕ) × HasServed R n ahead before now old new

-- after some lines a prefix of the next one's answer was written
abbrev pub ServedInPart : Runs → Option (List ℕ) → Option (List ℕ) → Option (List ℕ) → Option (List ℕ) → Type 0
ServedInPart R before now old new =
    (mid : Option (List ℕ)) × SomeServed R before now old mid
    × ((line reported : List ℕ) × Answers R line reported × AppendsPrefix mid new (ended reported))

-- some lines were served, and then why the run stops was written: by the counts of the sink's faults before and now
abbrev pub ServedAndSays : Runs → Stop → Option (List ℕ) → Option (List ℕ) → Option (List ℕ) → Option (List ℕ) → ℕ → ℕ → Type 0
ServedAndSays R stop before now old new faults faults' =
    (mid : Option (List ℕ)) × SomeServed R before now old mid × WritesLine (line_of stop) mid new faults faults'

-- n lines were served, what follows is no question, and this was written
abbrev pub Refused : Runs → Option (List ℕ) → Option (List ℕ) → Option (List ℕ) → Option (List ℕ) → ℕ → ℕ → Type 0
Refused R before now old new faults faults' =
    (n : ℕ) × (ahead : List ℕ) × (mid : Option (List ℕ)) × HasServed R n ahead before now old mid × HasNoQuestion R ahead now
    × WritesLine (line_of (Line (suc n))) mid new faults faults'
