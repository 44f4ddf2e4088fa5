use Rattle.std.proofs.Common.{◌∙◌}
use Rattle.std.proofs.lemmas.Result.{err_from_is_err_and}
use Rattle.statements.specs.Views.{carried}
use Rattle.stmt_codec.proofs.Looking.{group_passes, group_refused, no_group_left}
use Rattle.stmt_codec.proofs.claims.check_groups.Goals as goal

pub groups-preserved : goal.groups-preserved
groups-preserved c = c.groups.invariant ∙ group_passes (carried c.args.carrier) _ _ _ c.in-Some.ensures.steps c.in_ok-check_group.ensures

pub returns-in_err-check_group : goal.returns-in_err-check_group
returns-in_err-check_group c =
    let p = err_from_is_err_and c.from_residual.result c.from_residual.ensures.1 in
    rw (p.1, p.2) (c.groups.invariant ∙ group_refused (carried c.args.carrier) _ _ _ _ c.in-Some.ensures.steps c.in_err-check_group.ensures)

pub returns : goal.returns
returns c = c.groups.invariant ∙ no_group_left (carried c.args.carrier) _ c.in_default.ensures.steps.0
