use Rattle.std.proofs.Common.{◌∙◌, ap}
use Rattle.group_defs.specs.Views.{View}
use Rattle.multicast_rules.proofs.Ordering.{takes-one}
use Rattle.multicast_rules.proofs.orders.take_next.Goals as goal

pub returns : goal.returns
returns c =
    takes-one c.args.pool.now.pool c.members-members.result.now c.args.counts.now c.count_one.new.counts c.in_ok-rank.rank
    c.index-members-rank.result
    (c.members-members.ensures.value ∙ ap
    (λ (v : View). v.members) c.view.ensures) c.in_ok-rank.ensures c.index-members-rank.is c.count_one.ensures
