use Rattle.std.proofs.Common.{◌≡◌, ◌++◌, map, take}
use Rattle.std.specs.List.{flat_map}
use Rattle.happenings.specs.Events.{note}
use Rattle.picture_defs.specs.Labels.{note_span}
use Rattle.picture_labels.proofs.spans.push_notes.Given as goal

abbrev pub invariant-loop-note : goal.invariant-loop-note
invariant-loop-note l = l.out.items ≡ l.fn.out.items ++ flat_map note_span (map note (take l.note-index l.notes))
