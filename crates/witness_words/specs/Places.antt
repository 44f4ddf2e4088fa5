-- Places of an input after the line `go`, and what is judged from one on.
use Rattle.std.specs.Prelude.{◌≡◌, ℕ, List, [], ◌∷◌, ◌++◌, Option, Some, None, if◌then◌else◌, Result, Ok, Err}
use Rattle.byte_defs.specs.Fields.{◌>>=◌}
use Rattle.text_defs.specs.Words.{parts_of}
use Rattle.kit_defs.specs.Kits.{Kit}
use Rattle.kit_defs.specs.KitReading.{Line}
use Rattle.group_defs.specs.Process.{Setting}
use Rattle.line_input.specs.Places.{Settles}
use Rattle.audit_defs.specs.Players.{setting_of}
use Rattle.witness_defs.specs.Lines.{Evidence, evidence_in}
use Rattle.witness_defs.specs.Judging.{NoInput, NotTaken, Refusal, is_taken, judged_at, refusal_line}
use Rattle.audit_input.specs.declared.stops.Fault.{Fault}
use Rattle.audit_input.specs.Stops.{fault_line, fault_status}

-- A place after a kit: the number of the next line, and the bytes of the next lines that are read already.
pub record Place : Type 0 where
  pub kit : Kit
  pub number : ℕ
  pub ahead : List ℕ

abbrev pub place : Kit → ℕ → List ℕ → Place
place kit number ahead = record { kit = kit; number = number; ahead = ahead }

-- what is taken, or what is first in the way
abbrev pub Verdict : Type 0
Verdict = Result (List Evidence) Refusal

-- what is judged from there on, of these further bytes
abbrev pub judged_from : Place → List ℕ → Verdict
judged_from p more = judged_at (setting_of p.kit) p.number (parts_of (p.ahead ++ more))

-- this evidence, and then what else is taken
abbrev pub and_then : List Evidence → Verdict → Verdict
and_then es others = others >>= λ more. Ok (es ++ more)

-- one line was taken, and judging goes on there
abbrev pub behind : Evidence → Place → List ℕ → Verdict
behind e p more = and_then (e ∷ []) (judged_from p more)

-- ---- a line

-- the evidence, where it is taken
abbrev pub if_taken : Setting → ℕ → Option Evidence → Result Evidence Refusal
if_taken s n None = Err (NoInput (Line n))
if_taken s n (Some e) = if is_taken s e then Ok e else Err (NotTaken n)

-- the evidence of the line of this number, where it is taken
abbrev pub line_gives : Setting → ℕ → List ℕ → Result Evidence Refusal
line_gives s n line = if_taken s n (evidence_in line)

-- ---- faults

-- the fault is reported as this is
abbrev pub ReportsAs : Fault → Refusal → Type 0
ReportsAs fault r = (refusal_line r ≡ fault_line fault) × (fault_status fault ≡ 7)

-- something is in the way, which is reported as this fault is, whatever comes after what was read, or as the input ends there
pub record Refuses {A : Type 0} (answer : List ℕ → Result A Refusal) (before now : Option (List ℕ)) (fault : Fault) : Type 0 where
  pub why : Refusal
  pub is : Settles answer before now (Err why)
  pub reported : ReportsAs fault why
