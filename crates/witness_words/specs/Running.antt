-- What a run of `witness` has read and written: by what a source had left before and has left now, what a sink held before and holds now,
-- and the counts of the sink's faults before and now. Of a stream that does not say what it holds, nothing is said by it.
-- Names here (* for this crate alone):
--   of an input with no findings, from audit_input: HasFindings, HasNoFindings, Unconvicted, Unread*
--   convict: Audits*, text_of*, JudgeTakes*, Convicted, ConvictedInPart
--   proofs: Proved, ProvedInPart
--   judge: Takes*, Refused*, IsTaken*, IsRefused*
use Rattle.std.specs.Prelude.{◌≡◌, ℕ, List, [], ◌∷◌, ◌++◌, map, Option, Ok, Err, IsOk, IsErr, IsSomeAnd}
use Rattle.std.specs.Io.KnownBytes.{Appends}
use Rattle.rp_base.specs.Streams.{AppendsPrefix, WritesLine}
use Rattle.line_input.specs.Places.{Ends, Settles}
use Rattle.audit_defs.specs.Audits.{Audited}
use Rattle.audit_defs.specs.Findings.{audit_of}
use Rattle.input_defs.specs.Fronts.{Front, front_of}
use Rattle.audit_defs.specs.Players.{setting_of}
use Rattle.witness_defs.specs.Lines.{convicted_by, evidence_of, evidence_text}
use Rattle.witness_defs.specs.Judging as defs
use Rattle.witness_defs.specs.Judging.{Judged, Refusal, judged, refusal_line}
use Rattle.proof_defs.specs.Lines.{proofs_text}
use Rattle.proof_lines.specs.Taken.{ChainTakes}
-- an input with no findings, and what is written of it
pub use Rattle.audit_input.specs.Unread.{HasFindings, HasNoFindings, Unfound as Unconvicted, Unread}

-- ---- convict

-- The input was read to its end, and this is what an audit of it finds, with these processes taken as correct.
pub record Audits (listed : List ℕ) (before now : Option (List ℕ)) : Type 0 where
  pub audited : Audited
  pub all : Ends (audit_of listed) before now (Ok audited)

-- a line of evidence for each whom the audit convicts
abbrev pub text_of : {listed : List ℕ} {before now : Option (List ℕ)} → Audits listed before now → List ℕ
text_of a = evidence_text a.audited

-- What `judge` says to the lines of an audit's convictions: it takes all, after any lines that are read as a kit of the audit's setting.
abbrev pub JudgeTakes : Audited → Type 0
JudgeTakes a = (front : List ℕ) (f : Front) → front_of front ≡ Ok f → f.rest ≡ [] → setting_of f.kit ≡ a.family.setting
    → judged (front ++ evidence_text a) ≡ Ok (record { kit = f.kit; evidence = map evidence_of (convicted_by a) })

-- The lines of evidence were written, and nothing else; and `judge` takes them.
pub record Convicted (listed : List ℕ) (before now old new : Option (List ℕ)) : Type 0 where
  pub audits : Audits listed before now
  pub wrote : Appends old new (text_of audits)
  pub taken : JudgeTakes audits.audited

-- a prefix of them was written, and nothing else
pub record ConvictedInPart (listed : List ℕ) (before now old new : Option (List ℕ)) : Type 0 where
  pub audits : Audits listed before now
  pub wrote : AppendsPrefix old new (text_of audits)

-- ---- proofs

-- An audit of this one process was made. The lines of the views that it left were written, and nothing else; and `chain` takes them.
pub record Proved (p : ℕ) (before now old new : Option (List ℕ)) : Type 0 where
  pub audits : Audits (p ∷ []) before now
  pub wrote : Appends old new (proofs_text audits.audited)
  pub taken : ChainTakes audits.audited

-- a prefix of them was written, and nothing else
pub record ProvedInPart (p : ℕ) (before now old new : Option (List ℕ)) : Type 0 where
  pub audits : Audits (p ∷ []) before now
  pub wrote : AppendsPrefix old new (proofs_text audits.audited)

-- ---- judge

-- The input was read to its end, and all evidence in it is taken.
pub record Takes (before now : Option (List ℕ)) : Type 0 where
  pub judged : Judged
  pub all : Ends defs.judged before now (Ok judged)

-- What was read is not taken, whatever comes after it, or as the input ends with it. The line that says why was written and nothing else, or
-- a prefix of it where the sink failed.
pub record Refused (before now old new : Option (List ℕ)) (faults faults_now : ℕ) : Type 0 where
  pub why : Refusal
  pub is : Settles judged before now (Err why)
  pub said : WritesLine (refusal_line why) old new faults faults_now

-- the source says what it has left, and all of it is taken
abbrev pub IsTaken : Option (List ℕ) → Type 0
IsTaken left = IsSomeAnd left (λ bytes. IsOk (judged bytes))

-- and something is in the way
abbrev pub IsRefused : Option (List ℕ) → Type 0
IsRefused left = IsSomeAnd left (λ bytes. IsErr (judged bytes))
