-- What is told on standard error where a run stops: the status, and the line that says so.
use Rattle.std.specs.Prelude.{◌≡◌, ◌⊎◌, ℕ, List, [], ◌∷◌, codes, Option}
use Rattle.std.specs.Fmt.{decimal}
use Rattle.text_defs.specs.Words.{line_text}
use Rattle.rp_base.specs.Streams.{WritesLine}
use Rattle.line_input.specs.declared.faults.InputFault.{InputFault}
use Rattle.line_input.specs.declared.faults.InputFault.TheVariants as inputs
use Rattle.store_cli.specs.declared.stops.Stop.{Stop}
use Rattle.store_cli.specs.declared.stops.Stop.TheVariants.{NoMemory, Read, Write, Faulty}

-- which words there are
abbrev pub usage : List ℕ
usage = codes "assemble     requests in words become lines that submit them: 0 put 7 \"a\" \"b\"\ntell         lines about a store are followed by what they say\nask HEX      a kit and lines that nodes wrote become what rampart ask HEX is to read\nstop 2 words\n"

-- the line of this number is the first faulty one
abbrev pub fault_line : ℕ → List ℕ
fault_line number = line_text (codes "stop" ∷ codes "7" ∷ codes "line" ∷ decimal number ∷ [])

-- a read failed
abbrev pub read_line : List ℕ
read_line = line_text (codes "stop" ∷ codes "3" ∷ codes "read" ∷ [])

-- How a run ends that stops so: its status, and the line that was written to standard error, or that nothing was. Where there is no memory for
-- the line of a fault, the status is 1.
abbrev pub Ends : Option (List ℕ) → Option (List ℕ) → ℕ → ℕ → Type 0 → Stop → ℕ → Type 0
Ends errors errors_now faults faults_now Nothing NoMemory status = (status ≡ 1) × Nothing
Ends errors errors_now faults faults_now Nothing Read status = (status ≡ 3) × WritesLine read_line errors errors_now faults faults_now
Ends errors errors_now faults faults_now Nothing Write status = (status ≡ 4) × Nothing
Ends errors errors_now faults faults_now Nothing (Faulty number) status =
    ((status ≡ 7) × WritesLine (fault_line number) errors errors_now faults faults_now) ⊎ ((status ≡ 1) × Nothing)

-- why no line was taken
abbrev pub of_input : InputFault → Stop
of_input inputs.Read = Read
of_input inputs.NoMemory = NoMemory
