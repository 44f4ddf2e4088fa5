-- A fault that is handed on.
use Rattle.std.proofs.Common.{◌≡◌, Option, Some, None, Result, Err}
use Rattle.std.specs.Prelude.{IfSome}
use Rattle.audit_defs.specs.Audits as audits
use Rattle.audit_sources.specs.declared.fault.AuditFault.{AuditFault}
use Rattle.audit_sources.specs.Faults.{IsFaultOf, fault_of}

-- where a fault of one is a fault of the other
pub tells-so : {A B : Type 0} (fault : AuditFault) (one : Result A audits.AuditFault) (other : Result B audits.AuditFault)
    → ((f : audits.AuditFault) → one ≡ Err f → other ≡ Err f) → IsFaultOf fault one → IsFaultOf fault other
tells-so fault one other so tells = go (fault_of fault) tells
  where
    go : (o : Option audits.AuditFault) → IfSome o (λ f. one ≡ Err f) → IfSome o (λ f. other ≡ Err f)
    go None none = none
    go (Some f) is = so f is
