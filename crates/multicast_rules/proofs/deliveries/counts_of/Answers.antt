use Rattle.std.proofs.Common.{◌∙◌, ap}
use Rattle.std.specs.Prelude.{unwrap_or, slice_index, option_map}
use Rattle.group_defs.specs.Process.{Pool}
use Rattle.pool_questions.proofs.Judged.{count-is}
use Rattle.multicast_rules.proofs.Telling.{stranger-unranked}
use Rattle.multicast_rules.proofs.deliveries.counts_of.Goals as goal

pub returns-clause-member : goal.returns-clause-member
returns-clause-member c = λ member p has same. c.count_of.ensures ∙ count-is c.args.own.now p c.args.pool.now.pool.view has
    (ap (λ (h : Pool). h.view) same) c.args.sender member

pub returns-clause-stranger : goal.returns-clause-stranger
returns-clause-stranger c = λ stranger. c.count_of.ensures ∙ ap
    (λ o. unwrap_or (option_map (λ r. slice_index c.args.own.now.counts.items r) o) 0)
    (stranger-unranked c.args.pool.now.pool.view c.args.sender stranger)
