-- While a decision stands, the Ready that gave it is certified.
use Rattle.std.proofs.Common.{◌≡◌, inl, inr, ℕ, List, [], ◌∷◌, Some, true}
use Rattle.group_defs.specs.Below.{Value, Ready, Claim}
use Rattle.group_defs.specs.Process.{Setting, Process, start}
use Rattle.group_defs.specs.Certified.{is_certified}
use Rattle.group_defs.specs.Settle.{decided_by}
use Rattle.group_defs.specs.Laws.{DecisionIsCertified}
use Rattle.pool_laws.proofs.Growing.{is_certified-stays}
use Rattle.safety_laws.proofs.Induction.{Keeps, run-keeps}
use Rattle.safety_laws.proofs.Installed.{decided_by-is}
use Rattle.pool_laws.proofs.Tests.{none-some, option_or-is}

abbrev HasCertifiedReady : Process → Type 0
HasCertifiedReady p = (d : ℕ × Value) → p.decision ≡ Some d → is_certified p.pool (Ready p.pool.view.number d.0 d.1) ≡ true

keeps : (s : Setting) (from : List Claim) → Keeps s from HasCertifiedReady
keeps s from = record {
  accepts = λ p payload ok. ok;
  perceives = λ p e ok. ok;
  hears = λ p c m e ok d decided. is_certified-stays p.pool (c ∷ []) (Ready p.pool.view.number d.0 d.1) (ok d decided);
  doubts = λ p conflicts ok. ok;
  signs = λ p signer st next none ok d decided. absurd (none-some none decided);
  decides = λ p ok d e. elim (option_or-is p.decision (decided_by s p.pool) d e) [
    | inl before ↦ ok d before
    | inr by ↦
        (decided_by-is s p.pool d by).1
  ];
  delivers = λ p ds member room e ok. ok;
  installs = λ p d decided whole ok d' e. absurd cc;
  halts = λ p d decided member ok. ok;
}

pub decision_is_certified : DecisionIsCertified
decision_is_certified s me limit turns = run-keeps s HasCertifiedReady turns (keeps s _) (start s me limit) (λ d e. absurd cc)
