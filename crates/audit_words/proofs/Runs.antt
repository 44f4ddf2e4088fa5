-- What was found, as it is written.
use Rattle.std.proofs.Common.{◌≡◌, ℕ, List, [], ◌++◌, Option, Result, Ok, ap, subst, ◌∙◌, Vec, Global}
use Rattle.std.specs.Prelude.{IfOk, IsOkAnd}
use Rattle.std.specs.Io.KnownBytes.{Appends}
use Rattle.rp_base.specs.Streams.{AppendsPrefix}
use Rattle.line_input.specs.Places.{Ends}
use Rattle.audit_defs.specs.Inputs.{Input, input_of}
use Rattle.audit_defs.specs.Audits.{Audited, audited}
use Rattle.audit_defs.specs.Findings.{Findings, findings_line}
use Rattle.audit_defs.specs.Laws.{FirstGiveLast}
use Rattle.audit_core.specs.Found as core
use Rattle.audit_words.specs.Running.{Audits, Found, FoundInPart, line_of_findings}
use Rattle.audit_input.proofs.Reasons.{all_audited}
use Rattle.audit_input.specs.declared.stops.Stop.{Stop}
use Rattle.audit_input.proofs.Statuses.{made_and_written}

-- the line of what was found
abbrev pub Line : List ℕ → Option (List ℕ) → Option (List ℕ) → List ℕ → Type 0
Line listed before now line = (a : Audits listed before now) × (line ≡ line_of_findings a)

pub line_is : (listed : List ℕ) (before now : Option (List ℕ)) (input : Input) (f : core.Found) (empty line : List ℕ)
    → Ends input_of before now (Ok input)
    → (a : Audited) × (audited input.kit listed input.journals ≡ Ok a) × core.IsFound a f
    → FirstGiveLast f.reported → empty ≡ [] → line ≡ empty ++ findings_line f.reported → Line listed before now line
line_is listed before now input f empty line read found headline nothing written =
    let a : Audits listed before now = record {
      audited = found.0;
      all = all_audited listed before now input read found.0 found.1;
      headline = subst (λ (t : Findings). FirstGiveLast t) found.2.reported headline;
    } in (
      a,
      written ∙ ap (λ (t : List ℕ). t ++ findings_line f.reported) nothing ∙ ap findings_line found.2.reported,
    )

module _ (listed : List ℕ) (before now old new : Option (List ℕ)) (made : Result (Vec ℕ Global) Stop)
    (is : IfOk made (λ text. Line listed before now text.items)) where
  pub found : IsOkAnd made (λ text. Appends old new text.items) → Found listed before now old new
  found wrote =
      let m = made_and_written (λ (text : Vec ℕ Global). Line listed before now text.items) (λ text. Appends old new text.items) made is wrote in
      record { audits = m.1.0; wrote = subst (Appends old new) m.1.1 m.2 }

  pub found_in_part : IsOkAnd made (λ text. AppendsPrefix old new text.items) → FoundInPart listed before now old new
  found_in_part wrote =
      let m = made_and_written (λ (text : Vec ℕ Global). Line listed before now text.items) (λ text. AppendsPrefix old new text.items) made is wrote in
      record { audits = m.1.0; wrote = subst (AppendsPrefix old new) m.1.1 m.2 }
