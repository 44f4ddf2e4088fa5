use Rattle.std.proofs.Common.{ℕ, List, nat_eq, ap, ◌∙◌}
use Rattle.std.specs.Prelude.{codes}
use lib.Pointwise.{pointwise}
use Rattle.story_cli.specs.Top.{begins_as_schedule}
use Rattle.story_cli.proofs.giving.is_like_schedule.Goals as goal

pub returns : goal.returns
unfolding begins_as_schedule
returns c =
    c.eq.ensures ∙ ap (λ (xs : List ℕ). pointwise nat_eq xs c.front.result.now) c.as_slice.ensures
    ∙ ap (pointwise nat_eq (codes "RPS")) c.front.ensures
