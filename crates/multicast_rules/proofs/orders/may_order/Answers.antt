use Rattle.std.proofs.Common.{◌∙◌, ap}
use Rattle.group_defs.specs.Views.{View}
use Rattle.multicast_rules.proofs.Ordering.{in-turn, out-of-turn}
use Rattle.multicast_rules.proofs.orders.may_order.Goals as goal

pub returns-then-is_in_turn : goal.returns-then-is_in_turn
returns-then-is_in_turn c = λ s p tells.
    in-turn s p c.args.pool.now.pool c.args.own.now c.number.result c.has_signed.result tells
    (c.number.ensures.value ∙ ap (λ (v : View). v.number) c.view.ensures) c.has_signed.ensures c.if-is_in_turn.ensures

pub returns-else-is_in_turn : goal.returns-else-is_in_turn
returns-else-is_in_turn c = λ s p tells. c.if-is_in_turn.false ∙ out-of-turn s p c.args.pool.now.pool c.args.own.now tells
    c.if-is_in_turn.ensures
