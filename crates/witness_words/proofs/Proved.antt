-- What a run of `proofs` has written, by what was read.
use Rattle.std.proofs.Common.{◌≡◌, ℕ, List, [], ◌∷◌, Option, Result, Ok, subst, Vec, Global}
use Rattle.std.specs.Prelude.{IfOk, IsOkAnd}
use Rattle.std.specs.Io.KnownBytes.{Appends}
use Rattle.rp_base.specs.Streams.{AppendsPrefix}
use Rattle.line_input.specs.Places.{Ends}
use Rattle.audit_defs.specs.Audits.{Audited, audited}
use Rattle.audit_defs.specs.Inputs.{Input, input_of}
use Rattle.audit_input.proofs.Reasons.{all_audited}
use Rattle.audit_input.specs.declared.stops.Stop.{Stop}
use Rattle.audit_input.proofs.Statuses.{made_and_written}
use Rattle.proof_defs.specs.Lines.{proofs_text}
use Rattle.proof_lines.specs.Taken.{ChainTakes}
use Rattle.witness_words.specs.Running.{Audits, Proved, ProvedInPart}

-- the lines of what was audited; and `chain` takes them
abbrev pub Shown : ℕ → Option (List ℕ) → Option (List ℕ) → List ℕ → Type 0
Shown p before now text = (a : Audits (p ∷ []) before now) × (text ≡ proofs_text a.audited) × ChainTakes a.audited

module _ (p : ℕ) (before now : Option (List ℕ)) where
  -- what was read was audited, and this is the text of it
  pub all-proved : (input : Input) (text : List ℕ) → Ends input_of before now (Ok input)
      → (a : Audited) × (audited input.kit (p ∷ []) input.journals ≡ Ok a) × (text ≡ proofs_text a) × ChainTakes a
      → Shown p before now text
  all-proved input text read found = (
    record { audited = found.0; all = all_audited (p ∷ []) before now input read found.0 found.1 },
    found.2,
    found.3,
  )

module _ (p : ℕ) (before now old new : Option (List ℕ)) (made : Result (Vec ℕ Global) Stop)
    (is : IfOk made (λ text. Shown p before now text.items)) where
  pub proved : IsOkAnd made (λ text. Appends old new text.items) → Proved p before now old new
  proved wrote =
      let m = made_and_written (λ (text : Vec ℕ Global). Shown p before now text.items) (λ text. Appends old new text.items) made is wrote in
      record { audits = m.1.0; wrote = subst (Appends old new) m.1.1 m.2; taken = m.1.2 }

  pub proved-in-part : IsOkAnd made (λ text. AppendsPrefix old new text.items) → ProvedInPart p before now old new
  proved-in-part wrote =
      let m = made_and_written (λ (text : Vec ℕ Global). Shown p before now text.items) (λ text. AppendsPrefix old new text.items) made is wrote in
      record { audits = m.1.0; wrote = subst (AppendsPrefix old new) m.1.1 m.2 }
