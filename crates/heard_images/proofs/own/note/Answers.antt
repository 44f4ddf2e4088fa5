use Rattle.std.proofs.Common.{◌≡◌, ◌∙◌, sym, ap, not}
use Rattle.std.specs.List.{list_any}
use Rattle.byte_defs.specs.Choices.{is_some_and}
use Rattle.message_defs.specs.Statements.{slot_of}
use Rattle.member_events.specs.Below.{stmt, slot}
use Rattle.own_place.specs.Signed.{has_slot}
use Rattle.own_place.specs.Words.{slot_key, same_slot_key}
use Rattle.heard_images.proofs.own.note.Goals as goal

pub sign-requires-clause-fresh : goal.sign-requires-clause-fresh
sign-requires-clause-fresh c =
    let at = ap (λ k. slot k c.slot_of-slot.result) c.kind-kind.ensures ∙ c.slot_of-slot.ensures in
    ap (list_any (same_slot_key (slot_key (slot_of (stmt c.args.statement.now))))) c.reserve.ensures.same
    ∙ sym (c.has_signed.ensures ∙ ap (λ o. is_some_and o (has_slot c.args.slots.now)) at) ∙ c.if-has_signed.false
