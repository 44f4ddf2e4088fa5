use Rattle.std.proofs.Common.{◌≡◌, ◌+◌, Ok, true, false, inl, inr, [], ap, ◌∙◌, arith, rules}
use Rattle.std.proofs.lemmas.Grind.{common_steps}
use Rattle.std.proofs.lemmas.Result.{err_from_is_err_and}
use Rattle.line_input.specs.Taking.{Taken}
use Rattle.audit_input.specs.declared.stops.Stop.TheVariants.{Input}
use Rattle.audit_input.specs.Stops.{of_front}
use Rattle.witness_words.proofs.Judged.{all_taken, first_stands, no_front, one_refused, stands_more}
use Rattle.witness_words.proofs.judging.judge_all.Goals as goal

pub returns-in_err-front-clause-refused : goal.returns-in_err-front-clause-refused
returns-in_err-front-clause-refused g c = λ fault e.
    let p = err_from_is_err_and c.from_residual.result c.from_residual.ensures.1 in
    let same : of_front c.in_err-front.field-0.0 ≡ Input fault = cc (p.1, p.2, e) in
    no_front _ _ c.new-lines.result.ahead c.in_err-front.field-0.0 fault (ap (λ (t : Taken). t.ahead) c.new-lines.ensures) same
    c.in_err-front.ensures.fault

pub evidence-init : goal.evidence-init
evidence-init g c = record {
  taken = (
    [],
    first_stands _ _ c.in_ok-front.front.kit c.in_ok-front.front.go _ c.new-lines.result.ahead _
        (ap (λ (t : Taken). t.ahead) c.new-lines.ensures) c.in_ok-front.ensures.found c.in_ok-first.ensures.next,
  );
  steady = elim c.in_ok-front.ensures.steady [ inl bad ↦ absurd cc | inr same ↦ same ];
}

pub returns-in_err-step-clause-refused : goal.returns-in_err-step-clause-refused
returns-in_err-step-clause-refused g c = λ fault e.
    let p = err_from_is_err_and c.from_residual-in_err-step.result c.from_residual-in_err-step.ensures.1 in
    one_refused _ _ _ c.in_ok-front.front.kit c.evidence.number c.evidence.lines.ahead c.evidence.invariant.taken fault
    (c.in_err-step.ensures.refused fault (cc (p.1, p.2, e)))

pub evidence-preserved : goal.evidence-preserved
evidence-preserved g c =
    let yes : c.in_ok-step.field-0 ≡ true = first_of (cc, search rules, grind (arith, common_steps)) in
    record {
      taken = stands_more _ _ _ c.in_ok-front.front.kit c.evidence.number c.evidence.lines.ahead c.evidence.invariant.taken
          (c.evidence.number + 1) c.step.new.lines.ahead (c.in_ok-step.ensures.taken (ap (λ b. Ok b) yes));
      steady = elim c.in_ok-step.ensures.steady [ inl bad ↦ absurd cc | inr same ↦ same ∙ c.evidence.invariant.steady ];
    }

pub returns-then-not-branch-clause-taken : goal.returns-then-not-branch-clause-taken
returns-then-not-branch-clause-taken g c =
    let ended : c.in_ok-step.field-0 ≡ false = first_of (cc, search rules, grind (arith, common_steps)) in
    all_taken _ _ _ c.in_ok-front.front.kit c.evidence.number c.evidence.lines.ahead c.evidence.invariant.taken
    (c.in_ok-step.ensures.ended (ap (λ b. Ok b) ended))
