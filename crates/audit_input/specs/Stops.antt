-- Why a run over the input of an audit stops, or over a kit and lines of evidence, the status that it ends with, and the line that it writes.
use Rattle.std.specs.Prelude.{◌≡◌, ℕ, List, [], ◌∷◌, Option, Result, IsErrOf, codes}
use Rattle.std.specs.Fmt.{decimal}
use Rattle.text_defs.specs.Words.{line_text}
use Rattle.rp_base.specs.Streams.{WritesLine}
use Rattle.line_input.specs.declared.faults.InputFault.{InputFault}
use Rattle.line_input.specs.declared.faults.InputFault.TheVariants as inputs
use Rattle.kit_reading.specs.declared.faults.KitFault.{KitFault}
use Rattle.kit_reading.specs.declared.faults.KitFault.TheVariants as kit_faults
use Rattle.kit_reading.specs.declared.fronts.FrontFault.{FrontFault}
use Rattle.kit_reading.specs.declared.fronts.FrontFault.TheVariants as fronts
use Rattle.audit_sources.specs.declared.fault.AuditFault.{AuditFault}
use Rattle.audit_sources.specs.declared.fault.AuditFault.TheVariants as audit_faults
use Rattle.audit_input.specs.declared.stops.Fault.{Fault}
use Rattle.audit_input.specs.declared.stops.Fault.TheVariants.{Line, Repeated, Missing, KeyMismatch, Unhosted, Doubled, Journal, Evidence}
use Rattle.audit_input.specs.declared.stops.Stop.{Stop}
use Rattle.audit_input.specs.declared.stops.Stop.TheVariants.{NoMemory, Read, Write, Input}

-- what is reported of a fault after the status
abbrev pub words_of : Fault → List (List ℕ)
words_of (Line n) = codes "line" ∷ decimal n ∷ []
words_of (Repeated n) = codes "repeated" ∷ decimal n ∷ []
words_of (Missing n) = codes "missing" ∷ decimal n ∷ []
words_of (KeyMismatch n) = codes "keymismatch" ∷ decimal n ∷ []
words_of (Unhosted p) = codes "unhosted" ∷ decimal p ∷ []
words_of (Doubled p) = codes "doubled" ∷ decimal p ∷ []
words_of (Journal journal place) = codes "journal" ∷ decimal journal ∷ decimal place ∷ []
words_of (Evidence n) = codes "evidence" ∷ decimal n ∷ []

-- 8 where a journal is refused
abbrev pub fault_status : Fault → ℕ
fault_status (Journal journal place) = 8
fault_status _ = 7

-- the line of a fault
abbrev pub fault_line : Fault → List ℕ
fault_line fault = line_text (codes "stop" ∷ decimal (fault_status fault) ∷ words_of fault)

abbrev pub status_of : Stop → ℕ
status_of NoMemory = 1
status_of Read = 3
status_of Write = 4
status_of (Input fault) = fault_status fault

abbrev pub line_of : Stop → List ℕ
line_of NoMemory = []
line_of Read = codes "stop 3 read\n"
line_of Write = []
line_of (Input fault) = fault_line fault

-- A run stops by a fault of the input that has this status, and the line of it was written and nothing else, or a prefix of it where the sink
-- failed.
abbrev pub StopsSo : {T : Type 0} → Result T Stop → ℕ → Option (List ℕ) → Option (List ℕ) → ℕ → ℕ → Type 0
StopsSo made status old new faults faults_now =
    (fault : Fault) × IsErrOf made (Input fault) × (fault_status fault ≡ status) × WritesLine (fault_line fault) old new faults faults_now

-- ---- of what is called

-- why no line was taken
abbrev pub of_input : InputFault → Stop
of_input inputs.Read = Read
of_input inputs.NoMemory = NoMemory

-- why there is no kit, or no journal
abbrev pub of_kit : KitFault → Stop
of_kit (kit_faults.Line n) = Input (Line n)
of_kit (kit_faults.Repeated n) = Input (Repeated n)
of_kit (kit_faults.Missing n) = Input (Missing n)
of_kit (kit_faults.KeyMismatch n made listed) = Input (KeyMismatch n)
of_kit kit_faults.NoMemory = NoMemory

abbrev pub of_front : FrontFault → Stop
of_front fronts.Read = Read
of_front (fronts.Kit fault) = of_kit fault

-- why nothing was found
abbrev pub of_audit : AuditFault → Stop
of_audit (audit_faults.Missing p) = Input (Unhosted p)
of_audit (audit_faults.Repeated p) = Input (Doubled p)
of_audit (audit_faults.Entry journal place) = Input (Journal journal place)
of_audit audit_faults.NoMemory = NoMemory
