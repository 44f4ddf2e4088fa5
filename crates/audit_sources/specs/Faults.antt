-- Faults of an audit, as plain data.
use Rattle.std.specs.Prelude.{◌≡◌, Option, Some, None, Result, Err, IfSome}
use Rattle.audit_defs.specs.Audits as audits
use Rattle.audit_sources.specs.declared.fault.AuditFault.{AuditFault}
use Rattle.audit_sources.specs.declared.fault.AuditFault.TheVariants.{Missing, Repeated, Entry, NoMemory}

-- the fault in the definitions' words; none where memory ran out
abbrev pub fault_of : AuditFault → Option audits.AuditFault
fault_of (Missing p) = Some (audits.Missing p)
fault_of (Repeated p) = Some (audits.Repeated p)
fault_of (Entry journal place) = Some (audits.Entry journal place)
fault_of NoMemory = None

-- what was asked for has this fault, but for want of memory
abbrev pub IsFaultOf : {A : Type 0} → AuditFault → Result A audits.AuditFault → Type 0
IsFaultOf fault asked = IfSome (fault_of fault) (λ f. asked ≡ Err f)
