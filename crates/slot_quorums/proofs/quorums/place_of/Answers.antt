use Rattle.std.proofs.Common.{◌≡◌, ◌∙◌, Some, ap, sym}
use Rattle.std.proofs.lemmas.Map.Made.{lookup_key_passes}
use Rattle.claim_index.specs.declared.key.SlotKey.{SlotKey}
use Rattle.claim_index.specs.Keys.{same_slot_key}
use Rattle.claim_index.proofs.Keyed.{same_slot_key-is}
use Rattle.slot_quorums.proofs.quorums.place_of.Goals as goal

pub returns-in-Some : goal.returns-in-Some
returns-in-Some c =
    let stored = c.in-Some.field-0-1.now in
    let cell = c.in-Some.field-0-2.now in
    let same : c.args.key.now ≡ stored =
    same_slot_key-is c.args.key.now stored
    (lookup_key_passes (same_slot_key c.args.key.now) c.args.cells.now.entries stored (sym c.in-Some.ensures.key)) in
    (cell, c.in-Some.ensures.entry ∙ ap (λ (k : SlotKey). Some (k, cell)) (sym same), sym c.in-Some.ensures.value)
