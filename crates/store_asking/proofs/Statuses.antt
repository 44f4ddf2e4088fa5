-- Why there is no answer, by the status; and that no input has both an answer and a fault.
use Rattle.std.proofs.Common.{◌≡◌, ◌≢◌, ◌⊎◌, inl, inr, ℕ, ◌==◌, Bool, true, false, List, [], Option, None, Some, Result, Ok, Err, refl, sym, ap, subst, ◌∙◌, arith}
use Rattle.std.specs.Prelude.{IfSome, IsErr, IsOk, IsSomeAnd}
use Rattle.std.proofs.lemmas.Bool.{eqb-true, eqb-false}
use Rattle.kit_reading.specs.declared.faults.KitFault.{KitFault as KitFaults}
use Rattle.line_input.specs.Places.{Ends, Settles}
use Rattle.line_input.proofs.Places.{ends_settle, settles_all}
use Rattle.kit_defs.specs.Kits.{Kit}
use Rattle.kit_defs.specs.KitReading.{KitFault}
use Rattle.kit_reading.specs.Fronts.{front_fault}
use Rattle.kit_reading.specs.Faults.{fault_of}
use Rattle.kit_reading.specs.declared.fronts.FrontFault.{FrontFault}
use Rattle.kit_reading.specs.declared.fronts.FrontFault.TheVariants as fronts
use Rattle.rp_base.specs.Streams.{WritesLine}
use Rattle.store_defs.specs.Asking.{Question, answer_text, answered, ask_output, asked}
use Rattle.store_asking.specs.Answers.{Answered, AnsweredInPart, Asks, AsksNothing, Refused}
use Rattle.store_asking.specs.Stops.{line_of, status_of, stop_text}

-- ---- statuses

-- the status that is told: 1, or that of the reason
abbrev Ends1 : ℕ → FrontFault → Type 0
Ends1 r e = (r ≡ 1) ⊎ ((r ≡ 3) × (e ≡ fronts.Read)) ⊎ ((r ≡ 7) × (status_of e ≡ 7))

pub by_status : (r : ℕ) (e : FrontFault) → (r ≢ 1 → r ≡ status_of e) → Ends1 r e
by_status r e tells = of (r == 1) refl
  where
    by_fault : (fault : KitFaults) (o : Option KitFault) → fault_of fault ≡ o → r ≡ status_of (fronts.Kit fault) → Ends1 r (fronts.Kit fault)
    by_fault fault None none is = inl (is ∙ rw none refl)
    by_fault fault (Some f) some is = let seven : status_of (fronts.Kit fault) ≡ 7 = rw some refl in inr (inr (is ∙ seven, seven))

    by_reason : (e : FrontFault) → r ≡ status_of e → Ends1 r e
    by_reason fronts.Read is = inr (inl (is, refl))
    by_reason (fronts.Kit fault) is = by_fault fault (fault_of fault) refl is

    of : (t : Bool) → (r == 1) ≡ t → Ends1 r e
    of true t = inl (eqb-true r 1 t)
    of false t = by_reason e (tells (eqb-false r 1 t))

pub never : (r n : ℕ) (e : FrontFault) → (r ≢ 1 → r ≡ status_of e) → n ≢ 1 → n ≢ 3 → n ≢ 7 → r ≡ n → ⊥
never r n e tells not_one not_three not_seven is = elim (by_status r e tells) [
  | inl one ↦ not_one (sym is ∙ one)
  | inr (inl three) ↦ not_three (sym is ∙ three.0)
  | inr (inr seven) ↦ not_seven (sym is ∙ seven.0)
]

pub is_read : (r : ℕ) (e : FrontFault) → (r ≢ 1 → r ≡ status_of e) → r ≡ 3 → e ≡ fronts.Read
is_read r e tells is = elim (by_status r e tells) [
  | inl one ↦ absurd (omega (arith, is, one))
  | inr (inl three) ↦ three.1
  | inr (inr seven) ↦ absurd (omega (arith, is, seven.0))
]

pub is_seven : (r : ℕ) (e : FrontFault) → (r ≢ 1 → r ≡ status_of e) → r ≡ 7 → status_of e ≡ 7
is_seven r e tells is = elim (by_status r e tells) [
  | inl one ↦ absurd (omega (arith, is, one))
  | inr (inl three) ↦ absurd (omega (arith, is, three.0))
  | inr (inr seven) ↦ seven.1
]

-- a fault of the input, told in its line
pub record Reported (e : FrontFault) : Type 0 where
  pub fault : KitFault
  pub is : front_fault e ≡ Some fault
  pub line : line_of e ≡ stop_text fault

pub at_fault : (e : FrontFault) → status_of e ≡ 7 → Reported e
at_fault fronts.Read is = absurd (omega (arith, is))
at_fault (fronts.Kit fault) is = of (fault_of fault) refl
  where
    of : (o : Option KitFault) → fault_of fault ≡ o → Reported (fronts.Kit fault)
    of None e = let one = rw e at is in absurd (omega (arith, one))
    of (Some f) e = record { fault = f; is = e; line = rw e refl }

pub refused_so : (e : FrontFault) (before now old new : Option (List ℕ)) (f f' : ℕ) → status_of e ≡ 7
    → IfSome (front_fault e) (λ fault. Settles asked before now (Err fault)) → WritesLine (line_of e) old new f f' → Refused before now old new f f'
refused_so e before now old new f f' seven why said =
    let reported = at_fault e seven in
    record {
      fault = reported.fault;
      is = subst (λ (o : Option KitFault). IfSome o (λ fault. Settles asked before now (Err fault))) reported.is why;
      said = subst (λ (t : List ℕ). WritesLine t old new f f') reported.line said;
    }

-- ---- one input

both : (r : Result (Kit × Question) KitFault) (fault : KitFault) → IsOk r → r ≡ Err fault → ⊥
both (Ok q) fault ok is = absurd cc
both (Err f) fault ok is = cc

reported_both : (before now : Option (List ℕ)) (fault : KitFault) → Settles asked before now (Err fault) → Asks before → ⊥
reported_both None now fault s asks = asks
reported_both (Some bytes) now fault s asks = both (asked bytes) fault asks (settles_all asked (Err fault) (Some bytes) now s)

-- where a question stands, none is refused
pub no_fault : (e : FrontFault) (before now : Option (List ℕ)) → status_of e ≡ 7
    → IfSome (front_fault e) (λ fault. Settles asked before now (Err fault)) → Asks before → ⊥
no_fault e before now seven why asks =
    let reported = at_fault e seven in
    reported_both before now reported.fault (subst (λ (o : Option KitFault). IfSome o (λ fault. Settles asked before now (Err fault))) reported.is why) asks

no_output : (payload bytes text : List ℕ) → IsErr (asked bytes) → ask_output payload bytes ≡ (text, 0) → ⊥
unfolding ask_output
no_output payload bytes text bad is = of (asked bytes) bad is
  where
    of : (r : Result (Kit × Question) KitFault) → IsErr r → (let x : List ℕ × ℕ = elim r [
      | Ok q ↦ (answer_text q.1.view.number (answered q.0 payload q.1), 0)
      | Err fault ↦ (stop_text fault, 7)
    ] in x) ≡ (text, 0) → ⊥
    of (Ok q) bad is = cc
    of (Err fault) bad is = let same = ap (λ (x : List ℕ × ℕ). x.1) is in omega (arith, same)

-- where one has a fault, none is answered
pub no_answer : (payload text : List ℕ) (before now : Option (List ℕ)) → Ends (ask_output payload) before now (text, 0) → AsksNothing before → ⊥
no_answer payload text None now ends bad = bad
no_answer payload text (Some bytes) now ends bad =
    no_output payload bytes text bad
    (settles_all (ask_output payload) (text, 0) (Some bytes) now (ends_settle (ask_output payload) (text, 0) (Some bytes) now ends))
