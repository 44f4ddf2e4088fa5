-- What an audit of an input finds, by what is read of the input.
use Rattle.std.proofs.Common.{◌≡◌, ℕ, List, Option, Result, Ok, Err, refl, ap, ◌∙◌}
use Rattle.std.specs.Prelude.{IfSome}
use Rattle.kit_defs.specs.KitReading as kits
use Rattle.line_input.specs.Places.{Ends, Settles}
use Rattle.line_input.proofs.Places.{ends_by, ends_settle, settles_by}
use Rattle.kit_reading.specs.declared.faults.KitFault.{KitFault}
use Rattle.kit_reading.specs.declared.faults.KitFault.TheVariants as kit_faults
use Rattle.kit_reading.specs.declared.fronts.FrontFault.{FrontFault}
use Rattle.kit_reading.specs.declared.fronts.FrontFault.TheVariants as fronts
use Rattle.kit_reading.specs.Faults.{fault_of}
use Rattle.kit_reading.specs.Fronts.{front_fault}
use Rattle.audit_defs.specs.Inputs.{Input, input_of}
use Rattle.audit_defs.specs.Audits as audits
use Rattle.audit_defs.specs.Audits.{Audited, audited}
use Rattle.audit_defs.specs.Findings as findings
use Rattle.audit_defs.specs.Findings.{NoFindings, NoInput, Refused, audit_of, stop_line}
use Rattle.audit_sources.specs.Faults as sources
use Rattle.audit_sources.specs.declared.fault.AuditFault.{AuditFault}
use Rattle.audit_sources.specs.declared.fault.AuditFault.TheVariants as audit_faults
use Rattle.audit_input.specs.declared.stops.Fault.{Fault}
use Rattle.audit_input.specs.declared.stops.Stop.TheVariants.{Input as Stopped}
use Rattle.audit_input.specs.Stops.{fault_line, fault_status, of_audit, of_front, of_kit}
use Rattle.audit_input.specs.Unread.{Unread}

abbrev Finds : Type 0
Finds = Result Audited NoFindings

-- ---- after what was read

-- of what is found
abbrev reported : Result Audited audits.AuditFault → Finds
reported (Err fault) = Err (Refused fault)
reported (Ok a) = Ok a

-- of an input
abbrev by : List ℕ → Result Input kits.KitFault → Finds
by listed (Err fault) = Err (NoInput fault)
by listed (Ok input) = reported (audited input.kit listed input.journals)

opened : (listed bytes : List ℕ) → audit_of listed bytes ≡ by listed (input_of bytes)
unfolding audit_of
opened listed bytes = of (input_of bytes)
  where
    of_reported : (r : Result Audited audits.AuditFault) → (let f : Finds = elim r [ Err fault ↦ Err (Refused fault) | Ok a ↦ Ok a ] in f) ≡ reported r
    of_reported (Err fault) = refl
    of_reported (Ok a) = refl

    of : (r : Result Input kits.KitFault)
        → (let f : Finds = elim r [
          | Err fault ↦ Err (NoInput fault)
          | Ok input ↦ elim (audited input.kit listed input.journals) [ Err fault ↦ Err (Refused fault) | Ok a ↦ Ok a ]
        ] in f) ≡ by listed r
    of (Err fault) = refl
    of (Ok input) = of_reported (audited input.kit listed input.journals)

-- ---- a fault

-- What was read has no findings, for a reason whose line and status are these of the fault.
abbrev pub Reported : List ℕ → Option (List ℕ) → Option (List ℕ) → Fault → Type 0
Reported listed before now fault =
    (r : Unread listed before now) × (stop_line r.why ≡ fault_line fault) × (findings.status_of r.why ≡ fault_status fault)

is : (a b : Fault) → Stopped a ≡ Stopped b → a ≡ b
is a b e = cc

module _ (listed : List ℕ) (before now : Option (List ℕ)) where
  tells : (why : NoFindings) (reported fault : Fault) → Settles (audit_of listed) before now (Err why) → stop_line why ≡ fault_line reported
      → findings.status_of why ≡ fault_status reported → reported ≡ fault → Reported listed before now fault
  tells why reported fault settles line status same = (
    record { why = why; is = settles },
    line ∙ ap fault_line same,
    status ∙ ap fault_status same,
  )

  no_input : (f : kits.KitFault) → Settles input_of before now (Err f) → Settles (audit_of listed) before now (Err (NoInput f))
  no_input f settles = settles_by (audit_of listed) input_of (by listed) (opened listed) before now (Err f) settles

  kit_reported : (k : KitFault) (fault : Fault) → of_kit k ≡ Stopped fault → IfSome (fault_of k) (λ f. Settles input_of before now (Err f))
      → Reported listed before now fault
  kit_reported (kit_faults.Line n) fault e h = tells (NoInput (kits.Line n)) _ fault (no_input (kits.Line n) h) refl refl (is _ fault e)
  kit_reported (kit_faults.Repeated n) fault e h = tells (NoInput (kits.Repeated n)) _ fault (no_input (kits.Repeated n) h) refl refl (is _ fault e)
  kit_reported (kit_faults.Missing n) fault e h = tells (NoInput (kits.Missing n)) _ fault (no_input (kits.Missing n) h) refl refl (is _ fault e)
  kit_reported (kit_faults.KeyMismatch n made listed) fault e h = tells (NoInput (kits.KeyMismatch n _ _)) _ fault (no_input _ h) refl refl (is _ fault e)
  kit_reported kit_faults.NoMemory fault e h = absurd cc

  -- the lines of the input have a fault
  pub front_reported : (f : FrontFault) (fault : Fault) → of_front f ≡ Stopped fault
      → IfSome (front_fault f) (λ g. Settles input_of before now (Err g)) → Reported listed before now fault
  front_reported fronts.Read fault e h = absurd cc
  front_reported (fronts.Kit k) fault e h = kit_reported k fault e h

  -- ---- the input was read

  module _ (input : Input) (read : Ends input_of before now (Ok input)) where
    by_input : Ends (audit_of listed) before now (reported (audited input.kit listed input.journals))
    by_input = ends_by (audit_of listed) input_of (by listed) (opened listed) before now (Ok input) read

    ended : (r : Result Audited audits.AuditFault) → audited input.kit listed input.journals ≡ r → Ends (audit_of listed) before now (reported r)
    ended r e = record {
      read = by_input.read;
      taken = by_input.taken;
      ended = by_input.ended;
      is = by_input.is ∙ ap reported e;
    }

    pub all_audited : (a : Audited) → audited input.kit listed input.journals ≡ Ok a → Ends (audit_of listed) before now (Ok a)
    all_audited a e = ended (Ok a) e

    refused : (f : audits.AuditFault) → audited input.kit listed input.journals ≡ Err f
        → Settles (audit_of listed) before now (Err (Refused f))
    refused f e = ends_settle (audit_of listed) (Err (Refused f)) before now (ended (Err f) e)

    -- its journals are refused
    pub audit_reported : (f : AuditFault) (fault : Fault) → of_audit f ≡ Stopped fault
        → sources.IsFaultOf f (audited input.kit listed input.journals) → Reported listed before now fault
    audit_reported (audit_faults.Missing p) fault e h = tells (Refused (audits.Missing p)) _ fault (refused (audits.Missing p) h) refl refl (is _ fault e)
    audit_reported (audit_faults.Repeated p) fault e h = tells (Refused (audits.Repeated p)) _ fault (refused (audits.Repeated p) h) refl refl (is _ fault e)
    audit_reported (audit_faults.Entry j place) fault e h = tells (Refused (audits.Entry j place)) _ fault (refused (audits.Entry j place) h) refl refl (is _ fault e)
    audit_reported audit_faults.NoMemory fault e h = absurd cc
