-- What a run of `audit` has read and written: by what a source had left before and has left now, and what a sink held before and holds now.
-- Of a stream that does not say what it holds, nothing is said by it.
use Rattle.std.specs.Prelude.{ℕ, List, Option, Ok}
use Rattle.std.specs.Io.KnownBytes.{Appends}
use Rattle.rp_base.specs.Streams.{AppendsPrefix}
use Rattle.line_input.specs.Places.{Ends}
use Rattle.audit_defs.specs.Audits.{Audited}
use Rattle.audit_defs.specs.Findings.{audit_of, findings_line, findings_of}
use Rattle.audit_defs.specs.Laws.{FirstGiveLast}
-- an input with no findings, and what is written of it
pub use Rattle.audit_input.specs.Unread.{HasFindings, HasNoFindings, Unfound, Unread}

-- ---- the input

-- The input was read to its end, and this is what an audit of it finds, with these processes taken as correct. Findings that are honest and
-- bounded agree and are sound.
pub record Audits (listed : List ℕ) (before now : Option (List ℕ)) : Type 0 where
  pub audited : Audited
  pub all : Ends (audit_of listed) before now (Ok audited)
  pub headline : FirstGiveLast (findings_of audited)

-- the line of what is found
abbrev pub line_of_findings : {listed : List ℕ} {before now : Option (List ℕ)} → Audits listed before now → List ℕ
line_of_findings a = findings_line (findings_of a.audited)

-- ---- the output

-- The line of what an audit finds was written, and nothing else.
pub record Found (listed : List ℕ) (before now old new : Option (List ℕ)) : Type 0 where
  pub audits : Audits listed before now
  pub wrote : Appends old new (line_of_findings audits)

-- a prefix of that line was written, and nothing else
pub record FoundInPart (listed : List ℕ) (before now old new : Option (List ℕ)) : Type 0 where
  pub audits : Audits listed before now
  pub wrote : AppendsPrefix old new (line_of_findings audits)
