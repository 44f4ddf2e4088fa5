use Rattle.std.proofs.Common.{◌≡◌, ◌++◌, map, take}
use Rattle.std.specs.List.{flat_map}
use Rattle.text_defs.specs.Words.{line_text}
use Rattle.happenings.specs.Events.{note}
use Rattle.trace_defs.specs.Outcomes.{note_line}
use Rattle.story_trace.proofs.steps.push_notes.Given as goal

abbrev pub invariant-loop-note : goal.invariant-loop-note
invariant-loop-note l = l.out.items ≡ l.fn.out.items ++ flat_map line_text (map (note_line l.at) (map note (take l.note-index l.notes)))
