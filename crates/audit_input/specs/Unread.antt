-- An input of which an audit finds nothing, by what a source had left before and has left now, what a sink held before and holds now, and the
-- counts of the sink's faults before and now. Of a stream that does not say what it holds, nothing is said by it.
use Rattle.std.specs.Prelude.{◌≡◌, ℕ, List, Option, Err, IsOk, IsSomeAnd}
use Rattle.rp_base.specs.Streams.{WritesLine}
use Rattle.line_input.specs.Places.{Settles}
use Rattle.audit_defs.specs.Findings.{NoFindings, audit_of, status_of, stop_line}

-- What was read has no findings, whatever comes after it, or as the input ends with it, and this is why.
pub record Unread (listed : List ℕ) (before now : Option (List ℕ)) : Type 0 where
  pub why : NoFindings
  pub is : Settles (audit_of listed) before now (Err why)

-- What was read has no findings, for a reason of this status. The line that says why was written and nothing else, or a prefix of it where
-- the sink failed.
pub record Unfound (listed : List ℕ) (status : ℕ) (before now old new : Option (List ℕ)) (faults faults_now : ℕ) : Type 0 where
  pub unread : Unread listed before now
  pub is_status : status_of unread.why ≡ status
  pub said : WritesLine (stop_line unread.why) old new faults faults_now

-- ---- of a source that says what it has left

-- an audit finds something in it
abbrev pub HasFindings : List ℕ → Option (List ℕ) → Type 0
HasFindings listed left = IsSomeAnd left (λ bytes. IsOk (audit_of listed bytes))

-- it finds nothing, for a reason of this status
abbrev pub HasNoFindings : List ℕ → ℕ → Option (List ℕ) → Type 0
HasNoFindings listed status left = IsSomeAnd left (λ bytes. (why : NoFindings) × (audit_of listed bytes ≡ Err why) × (status_of why ≡ status))
