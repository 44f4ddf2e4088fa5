use Rattle.std.proofs.Common.{◌≡◌, ◌∙◌, true, false, refl, ap, arith, rules}
use Rattle.std.proofs.lemmas.Grind.{common_steps}
use Rattle.std.proofs.lemmas.Result.{err_from_is_err_and}
use Rattle.line_input.specs.Taking.{Taken}
use Rattle.store_cli.proofs.Runs.{none_yet, so_far_made, step_fails, step_more, step_over}
use Rattle.store_cli.proofs.filtering.run.Goals as goal

pub each-init : goal.each-init
each-init g c = record {
  so_far = none_yet c.args.filter _ _ c.new-lines.result.ahead _ (ap (λ (t : Taken). t.ahead) c.new-lines.ensures) refl;
  read = refl;
  wrote = refl;
}

pub each-preserved : goal.each-preserved
each-preserved g c =
    let yes : c.in_ok-step.field-0 ≡ true = first_of (cc, search rules, grind (arith, common_steps)) in
    record {
      so_far = step_more c.args.filter _ _ _ _ _ _ _ c.each.invariant.so_far _ _ _ yes c.in_ok-step.ensures.stepped _ refl;
      read = c.in_ok-step.ensures.steady.0 ∙ c.each.invariant.read;
      wrote = c.in_ok-step.ensures.steady.1 ∙ c.each.invariant.wrote;
    }

pub returns-then-not-branch-clause-ran : goal.returns-then-not-branch-clause-ran
returns-then-not-branch-clause-ran g c =
    let ended : c.in_ok-step.field-0 ≡ false = first_of (cc, search rules, grind (arith, common_steps)) in
    step_over c.args.filter _ _ _ _ _ _ _ c.each.invariant.so_far _ _ c.in_ok-step.field-0 ended c.in_ok-step.ensures.stepped

pub returns-in_err-step-clause-ran : goal.returns-in_err-step-clause-ran
returns-in_err-step-clause-ran g c =
    let p = err_from_is_err_and c.from_residual.result c.from_residual.ensures.1 in
    rw (p.1, p.2) (step_fails c.args.filter _ _ _ _ _ _ _ c.each.invariant.so_far _ _ c.in_err-step.field-0.0 c.in_err-step.ensures.stepped)

pub returns-clause-ran : goal.returns-clause-ran
returns-clause-ran g c = so_far_made c.args.filter _ _ _ _ _ _ c.each.invariant.so_far
