-- Why there is no answer: the status, and the line that says so.
use Rattle.std.specs.Prelude.{ℕ, List, [], ◌∷◌, codes, Option, Some, None}
use Rattle.std.specs.Option.{option_map_or}
use Rattle.std.specs.Fmt.{decimal}
use Rattle.text_defs.specs.Words.{line_text}
use Rattle.kit_defs.specs.KitReading.{KitFault}
use Rattle.input_defs.specs.Fronts.{fault_words}
use Rattle.kit_reading.specs.Fronts.{front_fault}
use Rattle.kit_reading.specs.declared.fronts.FrontFault.{FrontFault}
use Rattle.kit_reading.specs.declared.fronts.FrontFault.TheVariants.{Read, Kit}
use Rattle.kit_reading.specs.Faults.{fault_of}

-- the line of a fault of the input
abbrev pub stop_text : KitFault → List ℕ
stop_text fault = line_text (codes "stop" ∷ decimal 7 ∷ fault_words fault)

-- 7 where it is a fault of the input, and 1 where memory ran out
abbrev pub status_of : FrontFault → ℕ
status_of Read = 3
status_of (Kit fault) = option_map_or (λ f. 7) (fault_of fault) 1

-- nothing where memory ran out
abbrev pub line_of : FrontFault → List ℕ
line_of Read = codes "stop 3 read\n"
line_of (Kit fault) = option_map_or stop_text (fault_of fault) []
