-- What a filter makes of an input: each line becomes what is written for it. A line ends with a line feed and has at most 8,388,608 bytes
-- before it.
--   assemble     a line that asks for a request becomes the line that submits it, and any other stays as it is
--   tell         a line stays as it is, and after it comes what it says
-- A line that asks for a request and is none is faulty, and so is one that is too long or that no line feed ends. What the lines before the
-- first faulty one become is written, and nothing for that one or any after it.
-- Names here (* for this crate alone):
--   lines: most_line_bytes, IsLine, ended
--   one line: becomes
--   an input: Made, AreMade, input_of, output_of, HasNoLine, BeginsFaulty*, IsFaulty, Filtered, Stopped
use Rattle.std.specs.Prelude.{◌≡◌, ◌⊎◌, ℕ, ◌+◌, ◌<◌, ◌≤◌, ◌==◌, if◌then◌else◌, false, List, [], ◌∷◌, ◌++◌, length, Option, Some, None, option_map}
use Rattle.std.specs.List.{AllByRecursion, flat_map, list_any}
use Rattle.text_defs.specs.Words.{line_feed}
use Rattle.store_defs.specs.Words.{most_state_line_bytes}
use Rattle.store_text_defs.specs.declared.Filter.{Filter}
use Rattle.store_text_defs.specs.declared.Filter.TheVariants.{Assemble, Tell}
use Rattle.store_text_defs.specs.Requests.{asks, request_in, submit_line}
use Rattle.store_text_defs.specs.Meanings.{meaning}

-- ---- lines

-- how many bytes a line may have
abbrev pub most_line_bytes : ℕ
most_line_bytes = most_state_line_bytes

-- it has no line feed, and is not too long
pub record IsLine (line : List ℕ) : Type 0 where
  pub no_feed : list_any (λ b. b == line_feed) line ≡ false
  pub short : length line ≤ most_line_bytes

-- with its line feed
abbrev pub ended : List ℕ → List ℕ
ended line = line ++ line_feed ∷ []

-- ---- one line

-- what a line becomes; a faulty one becomes nothing
abbrev pub becomes : Filter → List ℕ → Option (List ℕ)
becomes Assemble line = if asks line then option_map submit_line (request_in line) else Some (ended line)
becomes Tell line = Some (ended line ++ meaning line)

-- ---- an input

-- lines, each with what it becomes
abbrev pub Made : Type 0
Made = List (List ℕ × List ℕ)

-- each is a line, and becomes this
abbrev pub AreMade : Filter → Made → Type 0
AreMade f made = AllByRecursion (λ m. IsLine m.0 × (becomes f m.0 ≡ Some m.1)) made

-- the lines of the input, one after the other
abbrev pub input_of : Made → List ℕ
input_of made = flat_map (λ m. ended m.0) made

-- what is written for them
abbrev pub output_of : Made → List ℕ
output_of made = flat_map (λ m. m.1) made

-- the bytes begin with no line
abbrev pub HasNoLine : List ℕ → Type 0
HasNoLine bytes = (line more : List ℕ) → bytes ≡ ended line ++ more → ¬ IsLine line

-- the bytes begin with a line that becomes nothing
pub record BeginsFaulty (f : Filter) (bytes : List ℕ) : Type 0 where
  pub line : List ℕ
  pub more : List ℕ
  pub is : bytes ≡ ended line ++ more
  pub fits : IsLine line
  pub nothing : becomes f line ≡ None

-- the bytes, which are all that is left of an input, begin with a faulty line
abbrev pub IsFaulty : Filter → List ℕ → Type 0
IsFaulty f bytes = BeginsFaulty f bytes ⊎ (HasNoLine bytes × (0 < length bytes))

-- a whole input has no faulty line, and this becomes of it
pub record Filtered (f : Filter) (input output : List ℕ) : Type 0 where
  pub made : Made
  pub are : AreMade f made
  pub input_is : input ≡ input_of made
  pub output_is : output ≡ output_of made

-- the line of this number, counted from 1, is the first faulty one of a whole input, and this becomes of those before it
pub record Stopped (f : Filter) (input output : List ℕ) (number : ℕ) : Type 0 where
  pub made : Made
  pub are : AreMade f made
  pub rest : List ℕ
  pub input_is : input ≡ input_of made ++ rest
  pub faulty : IsFaulty f rest
  pub output_is : output ≡ output_of made
  pub number_is : number ≡ length made + 1
