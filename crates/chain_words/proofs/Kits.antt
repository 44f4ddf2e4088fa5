-- What a kit and its faults are to an answer that goes by the kit at the front of its input.
use Rattle.std.proofs.Common.{◌≡◌, inl, inr, ℕ, ◌+◌, List, [], ◌++◌, Option, Some, Result, Ok, Err, refl, sym, subst, ap, ◌∙◌}
use Rattle.std.specs.Prelude.{IfSome}
use Rattle.std.proofs.KnownBytes.{Appends-nil}
use Rattle.kit_defs.specs.Kits.{Kit}
use Rattle.kit_defs.specs.KitReading as kits
use Rattle.input_defs.specs.Fronts.{Front, front_of}
use Rattle.chain_text_defs.specs.Chains.{Answer, behind, kit_words, stopped}
use Rattle.kit_reading.specs.declared.faults.KitFault.{KitFault}
use Rattle.kit_reading.specs.declared.faults.KitFault.TheVariants as faults
use Rattle.kit_reading.specs.declared.fronts.FrontFault.{FrontFault}
use Rattle.kit_reading.specs.declared.fronts.FrontFault.TheVariants as fronts
use Rattle.kit_reading.specs.Fronts.{Begins, HasFault, front_fault}
use Rattle.kit_reading.specs.Faults.{fault_of}
use Rattle.front_laws.proofs.Fronts.{fronts_go_on}
use Rattle.chain_words.specs.declared.stops.Fault.{Fault}
use Rattle.chain_words.specs.declared.stops.Stop.TheVariants.{Input}
use Rattle.chain_words.specs.Places.{Leads, Settles}
use Rattle.chain_words.specs.Running.{FaultyBy}
use Rattle.chain_words.specs.Stops.{of_front, of_kit, words_of}

-- ---- faults

is : (a b : Fault) → Input a ≡ Input b → a ≡ b
is a b e = cc

kit_reported : (f : KitFault) (fault : Fault) → of_kit f ≡ Input fault → (g : kits.KitFault) × (fault_of f ≡ Some g) × (kit_words g ≡ words_of fault)
kit_reported (faults.Line n) fault e = (kits.Line n, refl, ap words_of (is _ fault e))
kit_reported (faults.Repeated n) fault e = (kits.Repeated n, refl, ap words_of (is _ fault e))
kit_reported (faults.Missing n) fault e = (kits.Missing n, refl, ap words_of (is _ fault e))
kit_reported (faults.KeyMismatch n made listed) fault e = (kits.KeyMismatch n _ _, refl, ap words_of (is _ fault e))
kit_reported faults.NoMemory fault e = absurd cc

-- ---- an answer

-- the answer by what the input begins with
abbrev pub answer_by : (Front → Answer) → Result Front kits.KitFault → Answer
answer_by of_front (Err fault) = stopped (kit_words fault)
answer_by of_front (Ok f) = of_front f

module _ (answer : List ℕ → Answer) (behind_kit : Front → Answer)
    (opens : (bytes : List ℕ) → answer bytes ≡ answer_by behind_kit (front_of bytes)) (before now : Option (List ℕ)) where
  -- a kit begins the input, and the answer goes on behind it
  pub kit_leads : (kit : Kit) (go : ℕ) (left ahead : List ℕ) → ahead ≡ [] → Begins before now ahead kit go left
      → Leads answer before now (λ rest. behind_kit (record { kit = kit; line = go + 1; rest = left ++ rest }))
  kit_leads kit go left ahead nothing begins =
      let b = subst (λ (t : List ℕ). Begins before now t kit go left) nothing begins in
      record {
        read = b.read.0;
        taken = b.read.1;
        is = λ rest.
            let more = fronts_go_on b.bytes rest (record { kit = kit; line = go + 1; rest = left }) b.is in
            ap (λ (t : List ℕ). answer (t ++ rest)) (sym b.read.2) ∙ opens (b.bytes ++ rest) ∙ ap (answer_by behind_kit) more;
      }

  -- a kit with a fault
  no_kit : (fault : kits.KitFault) → HasFault before now [] fault → Settles answer before now (behind [] (stopped (kit_words fault)))
  no_kit fault h = record {
    read = h.read.0;
    taken = h.read.1;
    is = elim h.is [
      | inl each ↦ inl (λ rest. ap (λ (t : List ℕ). answer (t ++ rest)) (sym h.read.2) ∙ opens (h.bytes ++ rest)
          ∙ ap (answer_by behind_kit) (each rest))
      | inr over ↦ inr (over.0, ap answer (sym h.read.2) ∙ opens h.bytes ∙ ap (answer_by behind_kit) over.1)
    ];
  }

  -- an input that begins with no kit has the fault of its lines
  front_fails : (f : FrontFault) (fault : Fault) → of_front f ≡ Input fault → IfSome (front_fault f) (HasFault before now [])
      → Settles answer before now (behind [] (stopped (words_of fault)))
  front_fails fronts.Read fault e h = absurd cc
  front_fails (fronts.Kit k) fault e h =
      let reported = kit_reported k fault e in
      let has : HasFault before now [] reported.0 = rw reported.1 at h in
      subst (λ (words : List (List ℕ)). Settles answer before now (behind [] (stopped words))) reported.2 (no_kit reported.0 has)

  pub no_front : (old : Option (List ℕ)) (ahead : List ℕ) (f : FrontFault) (fault : Fault) → ahead ≡ [] → of_front f ≡ Input fault
      → IfSome (front_fault f) (HasFault before now ahead) → FaultyBy answer (words_of fault) before now old old
  no_front old ahead f fault nothing is h = record {
    lines = [];
    is = front_fails f fault is (subst (λ (t : List ℕ). IfSome (front_fault f) (HasFault before now t)) nothing h);
    wrote = Appends-nil old;
  }
