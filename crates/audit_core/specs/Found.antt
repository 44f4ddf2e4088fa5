-- What an audit found, as it is reported.
-- Names here (* for this crate alone):
--   a conviction: Evidence, evidence, evidence_of, Shown*, shown*, shown_of*
--   all of it: Found, found_of*, listed_in*, grounds_by*, grounds_of*, IsFound
use Rattle.std.specs.Prelude.{◌≡◌, ℕ, ◌==◌, List, [], map, find, Some, None}
use Rattle.message_defs.specs.Packing.{Signed, signed_of}
use Rattle.group_defs.specs.Process.{Setting}
use Rattle.group_defs.specs.Family.{handed_to, numbers}
use Rattle.conviction_defs.specs.Convictions as defs
use Rattle.conviction_defs.specs.Convictions.{convicted, convictions}
use Rattle.stmt_codec.specs.Views.{signed}
use Rattle.audit_defs.specs.Players.{Player}
use Rattle.audit_defs.specs.Audits.{Audited}
use Rattle.audit_defs.specs.Findings as plain
use Rattle.audit_defs.specs.Findings.{findings_of, reported_of}
use Rattle.findings_json.specs.declared.findings.Conviction.{Conviction}
use Rattle.findings_json.specs.declared.findings.Findings.{Findings}
use Rattle.findings_json.specs.Views.{findings, reported}

-- ---- a conviction

-- its two claims, with their signatures
pub record Evidence : Type 0 where
  pub first : Signed
  pub second : Signed

abbrev pub evidence : Conviction → Evidence
evidence c = record { first = signed c.first; second = signed c.second }

abbrev pub evidence_of : defs.Conviction → Evidence
evidence_of c = record { first = signed_of c.first; second = signed_of c.second }

-- as it is reported, and its claims
pub record Shown : Type 0 where
  pub reported : plain.Reported
  pub evidence : Evidence

abbrev pub shown : Conviction → Shown
shown c = record { reported = reported c; evidence = evidence c }

abbrev pub shown_of : defs.Conviction → Shown
shown_of c = record { reported = reported_of c; evidence = evidence_of c }

-- ---- all of it

-- what is reported; the claims of the convictions among it; and for each listed process, whom the claims handed to it convict
pub record Found : Type 0 where
  pub reported : plain.Findings
  pub evidence : List Evidence
  pub grounds : List (ℕ × List ℕ)

abbrev pub found_of : Findings → List (ℕ × List ℕ) → Found
found_of f grounds = record { reported = findings f; evidence = map evidence f.convicted.items; grounds = grounds }

-- the processes that were listed
abbrev pub listed_in : Found → List ℕ
listed_in f = map (λ g. g.0) f.grounds

-- whom the claims handed to the process convict; nobody where it is not listed
abbrev pub grounds_by : ℕ → List (ℕ × List ℕ) → List ℕ
grounds_by p grounds = elim (find (λ g. g.0 == p) grounds) [ None ↦ [] | Some g ↦ g.1 ]

-- of a process of the audit
abbrev pub grounds_of : Setting → Player → ℕ × List ℕ
grounds_of s c = (c.me, convicted s (handed_to c.turns))

-- this is what is reported of the audit
pub record IsFound (a : Audited) (f : Found) : Type 0 where
  pub reported : f.reported ≡ findings_of a
  pub evidence : f.evidence ≡ map evidence_of (convictions a.family.setting a.claims)
  pub listed : listed_in f ≡ numbers a.family
  pub grounds : (p : ℕ) → grounds_by p f.grounds ≡ plain.grounds a p
