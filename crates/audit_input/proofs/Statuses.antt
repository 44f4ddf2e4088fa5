-- What a run is, by its status, and which status comes.
use Rattle.std.proofs.Common.{◌≡◌, ◌≢◌, ◌⊎◌, ◌≤◌, inl, inr, ℕ, ◌==◌, Bool, true, false, List, Option, None, Some, Result, Ok, Err, refl, sym, ap, subst, ◌∙◌, arith}
use Rattle.std.specs.Prelude.{IfOk, IsOk, IsOkAnd}
use Rattle.std.proofs.lemmas.Bool.{eqb-true, eqb-false}
use Rattle.rp_base.specs.Streams.{WritesLine}
use Rattle.line_input.specs.Places.{Ends, Settles}
use Rattle.line_input.proofs.Places.{ends_settle, settles_all}
use Rattle.audit_defs.specs.Audits.{Audited}
use Rattle.audit_defs.specs.Findings as findings
use Rattle.audit_defs.specs.Findings.{NoFindings, audit_of}
use Rattle.audit_input.specs.declared.stops.Fault.{Fault}
use Rattle.audit_input.specs.declared.stops.Fault.TheVariants.{Line, Repeated, Missing, KeyMismatch, Unhosted, Doubled, Journal, Evidence}
use Rattle.audit_input.specs.declared.stops.Stop.{Stop}
use Rattle.audit_input.specs.declared.stops.Stop.TheVariants.{NoMemory, Read, Write, Input}
use Rattle.audit_input.specs.Stops.{StopsSo, fault_status, line_of, status_of}
use Rattle.audit_input.specs.Unread.{HasFindings, HasNoFindings, Unfound, Unread}
use Rattle.audit_input.proofs.Reasons.{Reported}

-- ---- statuses

-- a fault has the status 7 or 8
either_status : (fault : Fault) → (fault_status fault ≡ 7) ⊎ (fault_status fault ≡ 8)
either_status (Line n) = inl refl
either_status (Repeated n) = inl refl
either_status (Missing n) = inl refl
either_status (KeyMismatch n) = inl refl
either_status (Unhosted p) = inl refl
either_status (Doubled p) = inl refl
either_status (Journal j place) = inr refl
either_status (Evidence n) = inl refl

high_status : (fault : Fault) → (n : ℕ) → fault_status fault ≡ n → 7 ≤ n
high_status fault n e = elim (either_status fault) [ inl seven ↦ omega (arith, seven, e) | inr eight ↦ omega (arith, eight, e) ]

pub at_input : (stop : Stop) → (status_of stop ≡ 7) ⊎ (status_of stop ≡ 8) → (fault : Fault) × (stop ≡ Input fault)
at_input NoMemory e = absurd (elim e [ inl a ↦ omega (arith, a) | inr b ↦ omega (arith, b) ])
at_input Read e = absurd (elim e [ inl a ↦ omega (arith, a) | inr b ↦ omega (arith, b) ])
at_input Write e = absurd (elim e [ inl a ↦ omega (arith, a) | inr b ↦ omega (arith, b) ])
at_input (Input fault) e = (fault, refl)

pub at_write : (stop : Stop) → status_of stop ≡ 4 → stop ≡ Write
at_write NoMemory e = absurd (omega (arith, e))
at_write Read e = absurd (omega (arith, e))
at_write Write e = refl
at_write (Input fault) e = absurd (omega (arith, high_status fault 4 e))

pub at_read : (stop : Stop) → status_of stop ≡ 3 → stop ≡ Read
at_read NoMemory e = absurd (omega (arith, e))
at_read Read e = refl
at_read Write e = absurd (omega (arith, e))
at_read (Input fault) e = absurd (omega (arith, high_status fault 3 e))

pub never_zero : (stop : Stop) → status_of stop ≢ 0
never_zero NoMemory e = omega (arith, e)
never_zero Read e = omega (arith, e)
never_zero Write e = omega (arith, e)
never_zero (Input fault) e = omega (arith, high_status fault 0 e)

-- the run stops for this reason
pub err_is : {T : Type 0} (x y : Stop) → (let r : Result T Stop = Err x in r) ≡ Err y → x ≡ y
err_is x y same = cc

-- the run stops for another reason than a failed read
pub read_is_three : {T : Type 0} (stop : Stop) (result : ℕ) → (result ≢ 1 → result ≡ status_of stop) → (result ≡ 4) ⊎ (result ≡ 7) ⊎ (result ≡ 8)
    → (let r : Result T Stop = Err stop in r) ≡ Err Read → ⊥
read_is_three {T} stop result status which e = of which
  where
    three : result ≢ 1 → result ≡ 3
    three other = status other ∙ ap status_of (err_is stop Read e)

    of : (result ≡ 4) ⊎ (result ≡ 7) ⊎ (result ≡ 8) → ⊥
    of (inl four) = let other : result ≢ 1 = λ one. omega (arith, four, one) in omega (arith, four, three other)
    of (inr (inl seven)) = let other : result ≢ 1 = λ one. omega (arith, seven, one) in omega (arith, seven, three other)
    of (inr (inr eight)) = let other : result ≢ 1 = λ one. omega (arith, eight, one) in omega (arith, eight, three other)

-- these statuses come, and no other
pub only_these : (stop : Stop) (result : ℕ) → (result ≢ 1 → result ≡ status_of stop)
    → (result ≡ 0) ⊎ (result ≡ 1) ⊎ (result ≡ 3) ⊎ (result ≡ 4) ⊎ (result ≡ 7) ⊎ (result ≡ 8)
only_these stop result status = of (result == 1) refl
  where
    of_stop : (x : Stop) → result ≡ status_of x → (result ≡ 0) ⊎ (result ≡ 1) ⊎ (result ≡ 3) ⊎ (result ≡ 4) ⊎ (result ≡ 7) ⊎ (result ≡ 8)
    of_stop NoMemory e = inr (inl e)
    of_stop Read e = inr (inr (inl e))
    of_stop Write e = inr (inr (inr (inl e)))
    of_stop (Input fault) e = elim (either_status fault) [
      | inl seven ↦ inr (inr (inr (inr (inl (e ∙ seven)))))
      | inr eight ↦ inr (inr (inr (inr (inr (e ∙ eight)))))
    ]

    of : (t : Bool) → (result == 1) ≡ t → (result ≡ 0) ⊎ (result ≡ 1) ⊎ (result ≡ 3) ⊎ (result ≡ 4) ⊎ (result ≡ 7) ⊎ (result ≡ 8)
    of true e = inr (inl (eqb-true result 1 e))
    of false e = of_stop stop (status (eqb-false result 1 e))

-- ---- what a source said that it had left

pub apart : {A E : Type 0} (r : Result A E) (why : E) → IsOk r → r ≡ Err why → ⊥
apart (Ok a) why ok e = absurd cc
apart (Err other) why ok e = absurd cc

-- the answer to all that a source had is this one
module _ {A E : Type 0} (answer : List ℕ → Result A E) (bytes : List ℕ) (now : Option (List ℕ)) where
  pub all-ends : (a : A) → Ends answer (Some bytes) now (Ok a) → answer bytes ≡ Ok a
  all-ends a e = settles_all answer (Ok a) (Some bytes) now (ends_settle answer (Ok a) (Some bytes) now e)

  pub all-settles : (why : E) → Settles answer (Some bytes) now (Err why) → answer bytes ≡ Err why
  all-settles why s = settles_all answer (Err why) (Some bytes) now s

-- what is found in it is found
pub some_found : (listed : List ℕ) (before now : Option (List ℕ)) (a : Audited) → Ends (audit_of listed) before now (Ok a)
    → (status : ℕ) → ¬ HasNoFindings listed status before
some_found listed None now a all status none = none
some_found listed (Some bytes) now a all status none = other a none.0 (sym (all-ends (audit_of listed) bytes now a all) ∙ none.1)
  where
    other : (x : Audited) (why : NoFindings) → (let r : Result Audited NoFindings = Ok x in r) ≡ Err why → ⊥
    other x why e = absurd cc

none_found : (listed : List ℕ) (before now : Option (List ℕ)) → Unread listed before now → ¬ HasFindings listed before
none_found listed None now r some = some
none_found listed (Some bytes) now r some = apart (audit_of listed bytes) r.why some (all-settles (audit_of listed) bytes now r.why r.is)

same_reason : (listed : List ℕ) (before now : Option (List ℕ)) (r : Unread listed before now) (status : ℕ) → HasNoFindings listed status before
    → findings.status_of r.why ≡ status
same_reason listed None now r status none = absurd none
same_reason listed (Some bytes) now r status none =
    ap findings.status_of (one r.why none.0 (sym (all-settles (audit_of listed) bytes now r.why r.is) ∙ none.1)) ∙ none.2
  where
    one : (a b : NoFindings) → (let x : Result Audited NoFindings = Err a in x) ≡ Err b → a ≡ b
    one a b e = cc

-- ---- a run that ends

-- what is said of what it has made
pub is_ok_and : {V E : Type 0} (P : V → Type 0) (made : Result V E) (v : V) → made ≡ Ok v → P v → IsOkAnd made P
is_ok_and {V} {E} P made v e p = subst (λ (r : Result V E). IsOkAnd r P) (sym e) p

-- what is said of what it has made, and of what is written of it
pub made_and_written : {V E : Type 0} (P Q : V → Type 0) (made : Result V E) → IfOk made P → IsOkAnd made Q → (v : V) × P v × Q v
made_and_written P Q (Ok v) is wrote = (v, is, wrote)
made_and_written P Q (Err e) is wrote = absurd wrote

-- it stops by a fault of the input
pub stops_so : {T : Type 0} (made : Result T Stop) (stop : Stop) (result : ℕ) → made ≡ Err stop → (result ≢ 1 → result ≡ status_of stop) → (result ≡ 7) ⊎ (result ≡ 8)
    → (old new : Option (List ℕ)) (f f' : ℕ) → (result ≢ 1 → WritesLine (line_of stop) old new f f')
    → StopsSo made result old new f f'
stops_so {T} made stop result is status which old new f f' wrote =
    let other : result ≢ 1 = λ e. elim which [ inl a ↦ omega (arith, a, e) | inr b ↦ omega (arith, b, e) ] in
    let at = at_input stop (elim which [ inl a ↦ inl (sym (status other) ∙ a) | inr b ↦ inr (sym (status other) ∙ b) ]) in (
      at.0,
      is ∙ ap (λ (s : Stop). let r : Result T Stop = Err s in r) at.1,
      ap status_of (sym at.1) ∙ sym (status other),
      subst (λ (line : List ℕ). WritesLine line old new f f') (ap line_of at.1) (wrote other),
    )

module _ {T : Type 0} (made : Result T Stop) (listed : List ℕ) (before now old new : Option (List ℕ)) (f f' result : ℕ)
    (refused : (fault : Fault) → made ≡ Err (Input fault) → Reported listed before now fault) where
  -- it has no findings
  pub unfound : StopsSo made result old new f f' → Unfound listed result before now old new f f'
  unfound s =
      let r = refused s.0 s.1 in
      record {
        unread = r.0;
        is_status = r.2 ∙ s.2;
        said = subst (λ (line : List ℕ). WritesLine line old new f f') (sym r.1) s.3;
      }

  module _ (only : (result ≡ 0) ⊎ (result ≡ 1) ⊎ (result ≡ 3) ⊎ (result ≡ 4) ⊎ (result ≡ 7) ⊎ (result ≡ 8)) (no_read : result ≢ 3)
      (stops : (result ≡ 7) ⊎ (result ≡ 8) → StopsSo made result old new f f') where
    -- an input of which something is found gives 0
    pub completes : HasFindings listed before → result ≢ 4 → (result ≡ 0) ⊎ (result ≡ 1)
    completes some no_write = of only
      where
        none : (result ≡ 7) ⊎ (result ≡ 8) → ⊥
        none which = none_found listed before now (unfound (stops which)).unread some

        of : (result ≡ 0) ⊎ (result ≡ 1) ⊎ (result ≡ 3) ⊎ (result ≡ 4) ⊎ (result ≡ 7) ⊎ (result ≡ 8) → (result ≡ 0) ⊎ (result ≡ 1)
        of (inl zero) = inl zero
        of (inr (inl one)) = inr one
        of (inr (inr (inl three))) = absurd (no_read three)
        of (inr (inr (inr (inl four)))) = absurd (no_write four)
        of (inr (inr (inr (inr which)))) = absurd (none which)

    -- an input of which nothing is found gives the status of the reason
    pub refuses : (status : ℕ) → HasNoFindings listed status before → (result ≡ 0 → ⊥) → (result ≡ 4 → ⊥) → (result ≡ status) ⊎ (result ≡ 1)
    refuses status none no_zero no_write = of only
      where
        so : (result ≡ 7) ⊎ (result ≡ 8) → result ≡ status
        so which = let u = unfound (stops which) in sym u.is_status ∙ same_reason listed before now u.unread status none

        of : (result ≡ 0) ⊎ (result ≡ 1) ⊎ (result ≡ 3) ⊎ (result ≡ 4) ⊎ (result ≡ 7) ⊎ (result ≡ 8) → (result ≡ status) ⊎ (result ≡ 1)
        of (inl zero) = absurd (no_zero zero)
        of (inr (inl one)) = inr one
        of (inr (inr (inl three))) = absurd (no_read three)
        of (inr (inr (inr (inl four)))) = absurd (no_write four)
        of (inr (inr (inr (inr which)))) = inl (so which)
