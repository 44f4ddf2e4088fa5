-- The laws of evidence, each the contract of a public function of witness_laws.
use Rattle.std.specs.Prelude.{◌≡◌, ◌<◌, ◌≤◌, ℕ, List, [], ◌++◌, length, map, flat_map, All, Contains, IsTrue, Ok}
use Rattle.hex.specs.Hex.{IsBytes}
use Rattle.message_defs.specs.Limits.{last_process, most_frame_bytes}
use Rattle.message_defs.specs.Statements.{Claim}
use Rattle.message_defs.specs.Spelling.{IsClaim}
use Rattle.group_defs.specs.Family.{Family, IsOwned, numbers}
use Rattle.input_defs.specs.Fronts.{Front, front_of}
use Rattle.conviction_defs.specs.Convictions.{Conviction, Convicts, convictions}
use Rattle.audit_defs.specs.Evidence.{evidence_line, pair_frame}
use Rattle.audit_defs.specs.Players.{setting_of}
use Rattle.witness_defs.specs.Lines.{Evidence, evidence_of, line_with_feed}
use Rattle.witness_defs.specs.Judging.{Judged, claims_in, is_taken, judged}

-- Evidence that a line can spell: of a process from 0 to 63, with a frame of 1 to 61,000 bytes.
pub record IsSpelled (e : Evidence) : Type 0 where
  pub process : e.process ≤ last_process
  pub some : 0 < length e.frame
  pub few : length e.frame ≤ most_frame_bytes
  pub bytes : IsBytes e.frame

-- Lines of evidence that convicts are taken, after any lines that are read as a kit.
abbrev pub LinesAreTaken : Type 0
LinesAreTaken = (front : List ℕ) (f : Front) (es : List Evidence) → front_of front ≡ Ok f → f.rest ≡ [] → All IsSpelled es
    → All (λ e. IsTrue (is_taken (setting_of f.kit) e)) es
    → judged (front ++ flat_map line_with_feed es) ≡ Ok (record { kit = f.kit; evidence = es })

-- A frame can carry the two claims: they are in their ranges, and their bytes are bytes.
pub record CanBeCarried (c : Conviction) : Type 0 where
  pub first : IsClaim c.first
  pub second : IsClaim c.second
  pub bytes : IsBytes (pair_frame c.first c.second)

-- What `convict` writes, `judge` takes: after any lines that are read as a kit, the lines of all convictions by the kit's keys.
abbrev pub EvidenceConvicts : Type 0
EvidenceConvicts = (front : List ℕ) (f : Front) (claims : List Claim) → front_of front ≡ Ok f → f.rest ≡ []
    → All CanBeCarried (convictions (setting_of f.kit) claims)
    → judged (front ++ flat_map evidence_line (convictions (setting_of f.kit) claims))
    ≡ Ok (record { kit = f.kit; evidence = map evidence_of (convictions (setting_of f.kit) claims) })

-- Evidence is taken exactly where two valid claims of its process in its Bundle conflict: whoever holds it can show that, and whoever has
-- the public keys can see it.
abbrev pub TakenConvicts : Type 0
TakenConvicts = (bytes : List ℕ) (j : Judged) → judged bytes ≡ Ok j → All (λ e. Convicts (setting_of j.kit) (claims_in e) e.process) j.evidence

-- Who is convicted by what `judge` takes is not correct: in no family of the kit's setting, where each valid claim of a correct process in the
-- evidence is that process's own word, as it is in an honest family to which the evidence was handed.
abbrev pub EvidenceSparesCorrect : Type 0
EvidenceSparesCorrect = (f : Family) (bytes : List ℕ) (j : Judged) → judged bytes ≡ Ok j → setting_of j.kit ≡ f.setting
    → All (λ e. All (IsOwned f) (claims_in e)) j.evidence → All (λ e. ¬ Contains (numbers f) e.process) j.evidence
