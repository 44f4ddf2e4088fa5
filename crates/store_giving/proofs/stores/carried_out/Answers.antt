use Rattle.std.proofs.Common.{◌<◌, ◌≤◌, ◌∙◌, sym, ap, ℕ, List, length, arith}
use Rattle.store_defs.specs.Stores.{applied}
use Rattle.store_giving.proofs.Carried.{carry-end, carry-next}
use Rattle.store_giving.proofs.stores.carried_out.Goals as goal

pub messages-preserved : goal.messages-preserved
messages-preserved c =
    let lt : c.messages.message-index < length c.args.delivered.now = omega arith in
    carry-next c.messages.store c.args.delivered.now c.messages.message-index c.message-item.result c.apply.new.self lt c.message-item.is
    (c.in_ok-apply.ensures.applied ∙ ap (λ (b : List ℕ). (applied c.messages.store b).1) c.bytes.ensures)
    ∙ c.messages.invariant

pub returns : goal.returns
returns c =
    let le : length c.args.delivered.now ≤ c.messages.message-index = omega arith in
    sym (carry-end c.messages.store c.args.delivered.now c.messages.message-index le) ∙ c.messages.invariant
