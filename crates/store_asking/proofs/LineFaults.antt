-- What a call answers, by its fault, where more of the input was read before it.
use Rattle.std.proofs.Common.{◌≡◌, ℕ, List, Option, None, Some, Result, Err, sym, subst}
use Rattle.std.specs.Prelude.{IfSome}
use Rattle.kit_defs.specs.KitReading.{KitFault, Line}
use Rattle.kit_reading.specs.Fronts.{front_fault}
use Rattle.kit_reading.specs.declared.fronts.FrontFault.{FrontFault}
use Rattle.kit_reading.specs.declared.fronts.FrontFault.TheVariants as fronts
use Rattle.kit_reading.specs.declared.faults.KitFault.TheVariants as faults
use Rattle.line_input.specs.Places.{Leads, Settles}
use Rattle.line_laws.proofs.Read.{settles_then}

pub settles_if : {X : Type 0} (first : List ℕ → Result X KitFault) (later : List ℕ → Result X KitFault) (before mid now : Option (List ℕ))
    (o : Option KitFault) → Leads first before mid later → IfSome o (λ f. Settles later mid now (Err f))
    → IfSome o (λ f. Settles first before now (Err f))
settles_if first later before mid now None a h = tt
settles_if first later before mid now (Some f) a h = settles_then first later (Err f) before mid now a h

-- the fault of a line that is none
pub line_fault_is : {X : Type 0} (answer : List ℕ → Result X KitFault) (before now : Option (List ℕ)) (n : ℕ) (e : FrontFault)
    → e ≡ fronts.Kit (faults.Line n) → Settles answer before now (Err (Line n)) → IfSome (front_fault e) (λ f. Settles answer before now (Err f))
line_fault_is answer before now n e is h =
    subst (λ (x : FrontFault). IfSome (front_fault x) (λ f. Settles answer before now (Err f))) (sym is) h
