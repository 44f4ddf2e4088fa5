-- What a process signs is of the kinds that the setting names.
use Rattle.std.proofs.Common.{List, sym, subst}
use Rattle.std.specs.Prelude.{Contains}
use Rattle.group_defs.specs.Below.{Claim}
use Rattle.group_defs.specs.Process.{Setting, Process, start}
use Rattle.group_defs.specs.Due.{kind_of}
use Rattle.group_defs.specs.Signing.{own_claim}
use Rattle.group_defs.specs.Events.{run}
use Rattle.group_defs.specs.Laws.{SignsItsKinds}
use Rattle.rule_laws.proofs.Offered.{offers-kind}
use Rattle.safety_laws.proofs.Induction as induction
use Rattle.safety_laws.proofs.Induction.{run-keeps}
use Rattle.pool_laws.proofs.Members.{Mem, each-snoc, mem-All, mem-Contains}

-- ---- each run keeps it

abbrev OfKinds : Setting → Process → Type 0
OfKinds s p = (c : Claim) → Mem c p.signed → Mem (kind_of c.statement) s.signs

keeps : (s : Setting) (from : List Claim) → induction.Keeps s from (OfKinds s)
keeps s from = record {
  accepts = λ p payload ok. ok;
  perceives = λ p e ok. ok;
  hears = λ p c m e ok. ok;
  doubts = λ p conflicts ok. ok;
  signs = λ p signer st next none ok. each-snoc (λ (c : Claim). Mem (kind_of c.statement) s.signs) p.signed (own_claim s signer p st) ok
      (subst (λ kind. Mem kind s.signs) (sym (offers-kind next.kind s p st next.offered)) next.signed);
  decides = λ p ok. ok;
  delivers = λ p ds member room e ok. ok;
  installs = λ p d decided whole ok. ok;
  halts = λ p d decided member ok. ok;
}

pub signs_its_kinds : SignsItsKinds
signs_its_kinds s me limit turns =
    let p : Process = run s (start s me limit) turns in
    mem-All (λ (c : Claim). Contains s.signs (kind_of c.statement)) p.signed
    (λ c m. mem-Contains s.signs (kind_of c.statement)
    (induction.run-keeps s (OfKinds s) turns (keeps s _) (start s me limit) (λ c m. absurd m) c m))
