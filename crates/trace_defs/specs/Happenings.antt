-- What happens in a run, and its lines.
use Rattle.std.specs.Prelude.{ℕ, List, [], ◌∷◌, ◌++◌, Option, Some, None, codes}
use Rattle.std.specs.Fmt.{decimal}
use Rattle.trace_defs.specs.Phrases.{Line, spelled_words}
use Rattle.trace_defs.specs.Outcomes.{Seen, of_process, frame_line, refusal_line, heard_line, taken_lines}

-- what a process is handed
pub data Handed : Type 0 where
  -- a payload, to be sent to the group
  Payload : Handed
  -- the frame of this number, from the process that sent it
  Frame : (number from : ℕ) → Handed
  -- bytes that no process sent, as a frame from this one
  Bytes : (from : ℕ) → Handed
  -- the wish that this process be removed
  Suspects : (other : ℕ) → Handed
  -- the wish that this process be added
  Joins : (other : ℕ) → Handed
  -- the wish that a next view begin
  Renews : Handed
  -- word that time passes
  Ticks : Handed

-- what happens to a process, or between processes
pub data Happening : Type 0 where
  -- the process takes what it is handed, with this outcome; the next frame that is sent gets the number `first`
  Takes : (at : ℕ) (handed : Handed) (first : ℕ) (outcome : Seen) → Happening
  -- a frame is lost on its way
  Loses : (frame from to : ℕ) → Happening
  -- a corrupt process signs a statement, by its bytes, and sends it in this frame
  Lies : (signer : ℕ) (statement : List ℕ) (frame : ℕ) (to : List ℕ) → Happening
  -- a corrupt process has no signature left for its lie
  Silent : (signer : ℕ) → Happening

-- what it is handed, in words
abbrev pub handed_words : Handed → Line
handed_words (Frame number from) = codes "frame" ∷ decimal number ∷ codes "of" ∷ decimal from ∷ []
handed_words (Bytes from) = codes "bytes" ∷ codes "of" ∷ decimal from ∷ []
handed_words _ = codes "it" ∷ []

-- what it hears, where it gets a frame
abbrev pub heard_lines : ℕ → Handed → ℕ → List Line
heard_lines p (Frame number from) n = heard_line p (handed_words (Frame number from)) n ∷ []
heard_lines p (Bytes from) n = heard_line p (handed_words (Bytes from)) n ∷ []
heard_lines p _ n = []

-- what came of it at process p
abbrev pub outcome_lines : ℕ → Handed → ℕ → Seen → List Line
outcome_lines p handed first o = elim o.verdict [
  | None ↦ heard_lines p handed o.heard ++ taken_lines p first o
  | Some fault ↦ refusal_line p (handed_words handed) fault ∷ []
]

-- the lines of what happens
abbrev pub lines_of : Happening → List Line
lines_of (Takes at handed first o) = outcome_lines at handed first o
lines_of (Loses frame from to) =
    (codes " " ∷ codes "frame" ∷ decimal frame ∷ codes "of" ∷ decimal from ∷ codes "to" ∷ decimal to ∷ codes "is lost" ∷ []) ∷ []
lines_of (Lies signer statement frame to) =
    of_process signer (codes "signs" ∷ spelled_words statement)
    ∷ frame_line signer frame to
    ∷ []
lines_of (Silent signer) = of_process signer (codes "has no signature left, and sends nothing" ∷ []) ∷ []
