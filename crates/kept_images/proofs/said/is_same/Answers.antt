use Rattle.std.proofs.Common.{sym, ap, ◌∙◌}
use Rattle.std.specs.Prelude.{◌&&◌, not}
use Rattle.member_events.specs.Below.{stmt}
use Rattle.kept_images.proofs.Entries.{same-of}
use Rattle.kept_images.proofs.said.is_same.Goals as goal

pub returns-then-slot : goal.returns-then-slot
returns-then-slot c =
    ap (λ s. s && not c.conflicts-differ.result) (sym c.if-slot.true)
    ∙ same-of (stmt c.args.a.now) (stmt c.args.b.now) c.is_same_slot-slot.result c.conflicts-differ.result c.is_same_slot-slot.ensures
    c.conflicts-differ.ensures

pub returns-else-slot : goal.returns-else-slot
returns-else-slot c =
    c.if-slot.false ∙ ap (λ s. s && not c.conflicts-differ.result) (sym c.if-slot.false)
    ∙ same-of (stmt c.args.a.now) (stmt c.args.b.now) c.is_same_slot-slot.result c.conflicts-differ.result c.is_same_slot-slot.ensures
    c.conflicts-differ.ensures
