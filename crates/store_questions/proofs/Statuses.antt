-- Why nothing is made, by the status; and that no input has both a text and a fault.
use Rattle.std.proofs.Common.{◌≡◌, ◌≢◌, ◌⊎◌, inl, inr, ℕ, List, Option, None, Some, Result, Ok, Err, refl, sym, subst, ◌∙◌, arith}
use Rattle.std.specs.Prelude.{IfSome, IsErr, IsErrOf, IsOk}
use Rattle.line_input.specs.Places.{Ends, Settles}
use Rattle.line_input.proofs.Places.{ends_settle, settles_all}
use Rattle.kit_defs.specs.KitReading.{KitFault}
use Rattle.kit_reading.specs.Fronts.{front_fault}
use Rattle.kit_reading.specs.Faults.{fault_of}
use Rattle.kit_reading.specs.declared.fronts.FrontFault.{FrontFault}
use Rattle.kit_reading.specs.declared.fronts.FrontFault.TheVariants as fronts
use Rattle.rp_base.specs.Streams.{WritesLine}
use Rattle.store_question_defs.specs.Inputs.{ask_input}
use Rattle.store_questions.specs.Running.{IsMade, IsNotMade, Refused}
use Rattle.store_questions.specs.Stops.{EndsByFault, EndsByKitFault, read_line, stop_text}

module _ (errors errors_now : Option (List ℕ)) (faults faults_now : ℕ) (Nothing : Type 0) where
  abbrev Fault : Option KitFault → ℕ → Type 0
  Fault o r = EndsByKitFault errors errors_now faults faults_now Nothing o r

  abbrev Told : FrontFault → ℕ → Type 0
  Told e r = EndsByFault errors errors_now faults faults_now Nothing e r

  fault_only : (o : Option KitFault) (r : ℕ) → Fault o r → (r ≡ 1) ⊎ (r ≡ 7)
  fault_only None r t = inl t.0
  fault_only (Some f) r (inl t) = inr t.0
  fault_only (Some f) r (inr t) = inl t.0

  -- 1, 3 or 7
  pub one_of : (e : FrontFault) (r : ℕ) → Told e r → (r ≡ 1) ⊎ ((r ≡ 3) × (e ≡ fronts.Read)) ⊎ (r ≡ 7)
  one_of fronts.Read r t = inr (inl (t.0, refl))
  one_of (fronts.Kit fault) r t = elim (fault_only (fault_of fault) r t) [ inl one ↦ inl one | inr seven ↦ inr (inr seven) ]

  pub never : (e : FrontFault) (r n : ℕ) → Told e r → n ≢ 1 → n ≢ 3 → n ≢ 7 → r ≡ n → ⊥
  never e r n t one three seven is = elim (one_of e r t) [
    | inl a ↦ one (sym is ∙ a)
    | inr (inl a) ↦ three (sym is ∙ a.0)
    | inr (inr a) ↦ seven (sym is ∙ a)
  ]

  pub at_read : (e : FrontFault) (r : ℕ) → Told e r → r ≡ 3 → (e ≡ fronts.Read) × WritesLine read_line errors errors_now faults faults_now
  at_read fronts.Read r t is = (refl, t.1)
  at_read (fronts.Kit fault) r t is = elim (fault_only (fault_of fault) r t) [
    | inl one ↦ absurd (omega (arith, one, is))
    | inr seven ↦ absurd (omega (arith, seven, is))
  ]

  pub record Faulty (o : Option KitFault) : Type 0 where
    pub fault : KitFault
    pub is : o ≡ Some fault
    pub said : WritesLine (stop_text fault) errors errors_now faults faults_now

  fault_at : (o : Option KitFault) (r : ℕ) → Fault o r → r ≡ 7 → Faulty o
  fault_at None r t is = absurd (omega (arith, t.0, is))
  fault_at (Some f) r (inl t) is = record { fault = f; is = refl; said = t.1 }
  fault_at (Some f) r (inr t) is = absurd (omega (arith, t.0, is))

  pub at_fault : (e : FrontFault) (r : ℕ) → Told e r → r ≡ 7 → Faulty (front_fault e)
  at_fault fronts.Read r t is = absurd (omega (arith, t.0, is))
  at_fault (fronts.Kit fault) r t is = fault_at (fault_of fault) r t is

  fault_quiet : (o : Option KitFault) (r : ℕ) → Fault o r → r ≡ 1 → Nothing
  fault_quiet None r t is = t.1
  fault_quiet (Some f) r (inl t) is = absurd (omega (arith, t.0, is))
  fault_quiet (Some f) r (inr t) is = t.1

  at_one : (e : FrontFault) (r : ℕ) → Told e r → r ≡ 1 → Nothing
  at_one fronts.Read r t is = absurd (omega (arith, t.0, is))
  at_one (fronts.Kit fault) r t is = fault_quiet (fault_of fault) r t is

  pub quiet_so : (e : FrontFault) (r : ℕ) → Told e r → (r ≡ 0) ⊎ (r ≡ 1) ⊎ (r ≡ 4) → Nothing
  quiet_so e r t (inl zero) = absurd (never e r 0 t (λ a. omega (arith, a)) (λ a. omega (arith, a)) (λ a. omega (arith, a)) zero)
  quiet_so e r t (inr (inl one)) = at_one e r t one
  quiet_so e r t (inr (inr four)) = absurd (never e r 4 t (λ a. omega (arith, a)) (λ a. omega (arith, a)) (λ a. omega (arith, a)) four)

  read_status : (e : FrontFault) (r : ℕ) → Told e r → e ≡ fronts.Read → r ≡ 3
  read_status fronts.Read r t is = t.0
  read_status (fronts.Kit fault) r t is = absurd cc

  -- a failed read has status 3
  pub no_read : {X Q : Type 0} (e : FrontFault) (r : ℕ) → Told e r → IsErrOf {T = X} (Err e) fronts.Read ⊎ Q → r ≢ 3 → Q
  no_read e r t (inr q) other = q
  no_read e r t (inl is) other = absurd (other (read_status e r t (same e is)))
    where
      same : {Y : Type 0} (e : FrontFault) → IsErrOf {T = Y} (Err e) fronts.Read → e ≡ fronts.Read
      same e is = cc

  pub refused_so : (payload : List ℕ) (e : FrontFault) (r : ℕ) (before now : Option (List ℕ)) → Told e r → r ≡ 7
      → IfSome (front_fault e) (λ f. Settles (ask_input payload) before now (Err f)) → Refused payload before now errors errors_now faults faults_now
  refused_so payload e r before now t seven why =
      let at = at_fault e r t seven in
      record {
        fault = at.fault;
        is = subst (λ (o : Option KitFault). IfSome o (λ f. Settles (ask_input payload) before now (Err f))) at.is why;
        said = at.said;
      }

  pub no_fault : (payload : List ℕ) (e : FrontFault) (r : ℕ) (before now : Option (List ℕ)) → Told e r → r ≡ 7
      → IfSome (front_fault e) (λ f. Settles (ask_input payload) before now (Err f)) → IsMade payload before → ⊥
  no_fault payload e r before now t seven why is =
      let at = at_fault e r t seven in
      one_way payload before now at.fault
      (subst (λ (o : Option KitFault). IfSome o (λ f. Settles (ask_input payload) before now (Err f))) at.is why) is
    where
      both : (r : Result (List ℕ) KitFault) (fault : KitFault) → IsOk r → r ≡ Err fault → ⊥
      both (Ok q) fault ok is = absurd cc
      both (Err f) fault ok is = cc

      one_way : (payload : List ℕ) (before now : Option (List ℕ)) (fault : KitFault) → Settles (ask_input payload) before now (Err fault)
          → IsMade payload before → ⊥
      one_way payload None now fault s is = is
      one_way payload (Some bytes) now fault s is = both (ask_input payload bytes) fault is (settles_all (ask_input payload) (Err fault) (Some bytes) now s)

no_ok : (r : Result (List ℕ) KitFault) (text : List ℕ) → IsErr r → r ≡ Ok text → ⊥
no_ok (Ok q) text bad is = cc
no_ok (Err f) text bad is = absurd cc

-- where an input has a fault, nothing is made of it
pub no_text : (payload text : List ℕ) (before now : Option (List ℕ)) → Ends (ask_input payload) before now (Ok text) → IsNotMade payload before → ⊥
no_text payload text None now ends bad = bad
no_text payload text (Some bytes) now ends bad =
    no_ok (ask_input payload bytes) text bad
    (settles_all (ask_input payload) (Ok text) (Some bytes) now (ends_settle (ask_input payload) (Ok text) (Some bytes) now ends))
