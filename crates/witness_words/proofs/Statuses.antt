-- What a run of `judge` is, by its status, and which status comes.
use Rattle.std.proofs.Common.{◌≡◌, ◌≢◌, ◌⊎◌, inl, inr, ℕ, ◌==◌, Bool, true, false, List, Option, None, Some, Result, Ok, Err, refl, sym, ap, subst, ◌∙◌, arith}
use Rattle.std.specs.Prelude.{IsErr}
use Rattle.std.proofs.lemmas.Bool.{eqb-true, eqb-false}
use Rattle.rp_base.specs.Streams.{WritesLine}
use Rattle.witness_defs.specs.Judging.{Judged, Refusal, judged}
use Rattle.audit_input.specs.declared.stops.Fault.{Fault}
use Rattle.audit_input.specs.declared.stops.Stop.{Stop}
use Rattle.audit_input.specs.declared.stops.Stop.TheVariants.{NoMemory, Read, Write, Input}
use Rattle.audit_input.specs.Stops.{line_of, status_of}
use Rattle.audit_input.proofs.Statuses.{all-ends, all-settles, apart, at_input}
use Rattle.witness_words.specs.Places.{Refuses}
use Rattle.witness_words.specs.Running.{IsRefused, IsTaken, Refused, Takes}

-- what is taken of it is taken
pub some_taken : (before now : Option (List ℕ)) → Takes before now → ¬ IsRefused before
some_taken None now t none = none
some_taken (Some bytes) now t none = of (judged bytes) none (all-ends judged bytes now t.judged t.all)
  where
    of : (r : Result Judged Refusal) → IsErr r → r ≡ Ok t.judged → ⊥
    of (Ok j) bad e = absurd cc
    of (Err why) bad e = absurd cc

module _ (before now : Option (List ℕ)) (stop : Stop) (result : ℕ) (reported : (fault : Fault) → stop ≡ Input fault → Refuses judged before now fault)
    (no_write : stop ≢ Write) (status : result ≢ 1 → result ≡ status_of stop) where
  pub refused_so : result ≡ 7 → (old new : Option (List ℕ)) (f f' : ℕ) → (result ≢ 1 → WritesLine (line_of stop) old new f f')
      → Refused before now old new f f'
  refused_so seven old new f f' says =
      let other : result ≢ 1 = λ e. omega (arith, seven, e) in
      let at = at_input stop (inl (sym (status other) ∙ seven)) in
      let t = reported at.0 at.1 in
      record {
        why = t.why;
        is = t.is;
        said = subst (λ (line : List ℕ). WritesLine line old new f f') (ap line_of at.1 ∙ sym t.reported.0) (says other);
      }

  -- the status, where it is not 1
  by_status : {P : Type 0} → (stop ≡ Read → result ≡ 3 → P) → ((fault : Fault) → stop ≡ Input fault → result ≡ 7 → P) → result ≢ 1 → P
  by_status {P} at_three at_seven other = of stop refl
    where
      of : (x : Stop) → stop ≡ x → P
      of NoMemory e = absurd (other (status other ∙ ap status_of e))
      of Read e = at_three e (status other ∙ ap status_of e)
      of Write e = absurd (no_write e)
      of (Input fault) e = at_seven fault e (status other ∙ ap status_of e ∙ (reported fault e).reported.1)

  pub judge_ends : (result ≡ 0) ⊎ (result ≡ 1) ⊎ (result ≡ 3) ⊎ (result ≡ 7)
  judge_ends = of (result == 1) refl
    where
      of : (t : Bool) → (result == 1) ≡ t → (result ≡ 0) ⊎ (result ≡ 1) ⊎ (result ≡ 3) ⊎ (result ≡ 7)
      of true e = inr (inl (eqb-true result 1 e))
      of false e = by_status (λ read three. inr (inr (inl three))) (λ fault is seven. inr (inr (inr seven))) (eqb-false result 1 e)

  none_taken : (fault : Fault) → stop ≡ Input fault → ¬ IsTaken before
  none_taken fault e some = of before (reported fault e) some
    where
      of : (b : Option (List ℕ)) → Refuses judged b now fault → IsTaken b → ⊥
      of None r some = some
      of (Some bytes) r some = apart (judged bytes) r.why some (all-settles judged bytes now r.why r.is)

  module _ (no_read : stop ≢ Read) where
    pub never_refuses : IsTaken before → (result ≡ 0) ⊎ (result ≡ 1)
    never_refuses some = of (result == 1) refl
      where
        of : (t : Bool) → (result == 1) ≡ t → (result ≡ 0) ⊎ (result ≡ 1)
        of true e = inr (eqb-true result 1 e)
        of false e = by_status (λ read three. absurd (no_read read)) (λ fault is seven. absurd (none_taken fault is some)) (eqb-false result 1 e)

    pub refuses_so : (result ≡ 7) ⊎ (result ≡ 1)
    refuses_so = of (result == 1) refl
      where
        of : (t : Bool) → (result == 1) ≡ t → (result ≡ 7) ⊎ (result ≡ 1)
        of true e = inr (eqb-true result 1 e)
        of false e = by_status (λ read three. absurd (no_read read)) (λ fault is seven. inl seven) (eqb-false result 1 e)
