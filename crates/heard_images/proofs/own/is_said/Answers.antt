use Rattle.std.proofs.Common.{◌∙◌, sym, ap}
use Rattle.std.specs.Prelude.{is_some, option_and_then}
use Rattle.group_defs.specs.Certified.{heard_on}
use Rattle.member_events.specs.Below.{stmt, slot}
use Rattle.heard_images.proofs.Said.{some-mapped}
use Rattle.heard_images.proofs.own.is_said.Goals as goal

pub returns : goal.returns
returns c =
    let at = ap (λ k. slot k c.slot_of-slot.result) c.kind-kind.ensures ∙ c.slot_of-slot.ensures in
    c.is_some.ensures ∙ sym (some-mapped stmt c.first.result)
    ∙ ap is_some (c.first.ensures ∙ ap (option_and_then (heard_on c.args.pool.now.pool c.args.me)) at)
