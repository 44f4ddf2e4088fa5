use Rattle.std.proofs.Common.{List, sym, ap, ◌∙◌}
use Rattle.std.specs.List.{list_any}
use Rattle.happenings.specs.Events.{note}
use Rattle.member_events.specs.declared.events.Note.{Note}
use Rattle.picture_defs.specs.Labels.{is_delivery}
use Rattle.picture_labels.proofs.Mapped.{any-map}
use Rattle.picture_labels.proofs.labels.has_delivery.Goals as goal

pub returns : goal.returns
returns c =
    c.delivers.ensures ∙ ap (λ (xs : List Note). list_any (λ n. is_delivery (note n)) xs) c.deref.ensures.value
    ∙ sym (any-map note is_delivery c.args.seen.now.notes.items)
