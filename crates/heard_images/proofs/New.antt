-- What one verdict says.
use Rattle.std.proofs.Common.{◌≡◌, ℕ, List, Bool, true, false, refl, sym, ◌∙◌}
use Rattle.std.specs.Prelude.{◌↔◌, IsTrue}
use Rattle.message_defs.specs.Statements.{Claim}
use Rattle.group_defs.specs.Process.{Setting, Process}
use Rattle.group_defs.specs.Hearing.{Heard, verdict}
use Rattle.claim_pool.specs.Settings.{as_setting}
use Rattle.claim_pool.specs.Verdicts.{verdict as verdict_of}
use Rattle.claim_pool.specs.declared.verdict.Verdict as code
use Rattle.claim_pool.specs.declared.verdict.Verdict.TheVariants as codes
use Rattle.claim_hearing.specs.Hearing.{Shares}
use Rattle.claim_hearing.proofs.Heard.{same-verdict}

not-heard : (v : code.Verdict) → (v ≡ codes.Heard → ⊥) → verdict_of v ≡ Heard → ⊥
not-heard codes.Heard other e = other refl
not-heard codes.Conflict other e = absurd cc
not-heard codes.Old other e = absurd cc
not-heard codes.Early other e = absurd cc
not-heard codes.Stranger other e = absurd cc
not-heard codes.OutOfWindow other e = absurd cc
not-heard codes.Known other e = absurd cc
not-heard codes.Unsigned other e = absurd cc

module _ (s : Setting) (valid : List ℕ → List ℕ → List ℕ → Bool) (group : List ℕ) (roster : List (ℕ × List ℕ))
    (shares : Shares s valid group roster) (p : Process) (c : Claim) where
  pub is-new : Heard ≡ verdict (as_setting valid group roster) p c → IsTrue true ↔ (verdict s p c ≡ Heard)
  is-new e = (λ ok. sym (e ∙ same-verdict s valid group roster shares p c), λ is. refl)

  pub is-none : (v : code.Verdict) → (v ≡ codes.Heard → ⊥) → verdict_of v ≡ verdict (as_setting valid group roster) p c
      → IsTrue false ↔ (verdict s p c ≡ Heard)
  is-none v other e = (
    λ no_way. absurd cc,
    λ is. absurd (not-heard v other (e ∙ same-verdict s valid group roster shares p c ∙ is)),
  )
