use Rattle.std.proofs.Common.{◌-◌, ◌∙◌, min, length, ap}
use Rattle.group_defs.specs.Views.{View}
use Rattle.pool_questions.proofs.Removals.{removed-by-set}
use Rattle.pool_questions.proofs.notices.removed_rank.Goals as goal

pub returns : goal.returns
returns c =
    removed-by-set c.args.pool.now.pool c.members-members.result.now c.notified.result.now c.removed.result _ c.notified.ensures
    c.removed.ensures
    (c.members-members.ensures.value ∙ ap (λ (v : View). v.members) c.view.ensures)
    (c.min.ensures ∙ ap (λ n. min n (length c.members-members.result.now - 1)) c.front_among-front.ensures.front)
