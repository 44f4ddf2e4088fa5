-- Why nothing is made: the status, and the line that says so.
-- Names here (* for this crate alone):
--   stop_text, read_line*, EndsByKitFault*, EndsByFault*
use Rattle.std.specs.Prelude.{◌≡◌, ◌⊎◌, ℕ, List, ◌∷◌, codes, Option, Some, None}
use Rattle.std.specs.Fmt.{decimal}
use Rattle.text_defs.specs.Words.{line_text}
use Rattle.kit_defs.specs.KitReading.{KitFault}
use Rattle.input_defs.specs.Fronts.{fault_words}
use Rattle.rp_base.specs.Streams.{WritesLine}
use Rattle.kit_reading.specs.declared.fronts.FrontFault.{FrontFault}
use Rattle.kit_reading.specs.declared.fronts.FrontFault.TheVariants.{Read, Kit}
use Rattle.kit_reading.specs.Faults.{fault_of}

-- the line of a fault of the input
abbrev pub stop_text : KitFault → List ℕ
stop_text fault = line_text (codes "stop" ∷ decimal 7 ∷ fault_words fault)

-- a read failed
abbrev pub read_line : List ℕ
read_line = codes "stop 3 read\n"

-- How a run ends without a text: its status, and the line that was written to standard error, or that nothing was. Where there is no memory for
-- the line of a fault, the status is 1, as where there was none before.
abbrev pub EndsByKitFault : Option (List ℕ) → Option (List ℕ) → ℕ → ℕ → Type 0 → Option KitFault → ℕ → Type 0
EndsByKitFault errors errors_now faults faults_now Nothing None status = (status ≡ 1) × Nothing
EndsByKitFault errors errors_now faults faults_now Nothing (Some fault) status =
    ((status ≡ 7) × WritesLine (stop_text fault) errors errors_now faults faults_now) ⊎ ((status ≡ 1) × Nothing)

abbrev pub EndsByFault : Option (List ℕ) → Option (List ℕ) → ℕ → ℕ → Type 0 → FrontFault → ℕ → Type 0
EndsByFault errors errors_now faults faults_now Nothing Read status = (status ≡ 3) × WritesLine read_line errors errors_now faults faults_now
EndsByFault errors errors_now faults faults_now Nothing (Kit fault) status = EndsByKitFault errors errors_now faults faults_now Nothing (fault_of fault) status
