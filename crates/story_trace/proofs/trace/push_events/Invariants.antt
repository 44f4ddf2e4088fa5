use Rattle.std.proofs.Common.{◌≡◌, ◌++◌, map, take}
use Rattle.std.specs.List.{flat_map, enumerate_from, zip}
use Rattle.text_defs.specs.Words.{line_text}
use Rattle.schedule_file.specs.Views as views
use Rattle.reported_defs.specs.Reported.{event_lines}
use Rattle.happenings.specs.Reported.{happening}
use Rattle.story_trace.proofs.trace.push_events.Given as goal

abbrev pub invariant-loop-i : goal.invariant-loop-i
invariant-loop-i l = l.out.items ≡ l.fn.out.items
    ++ flat_map (λ e. flat_map line_text (event_lines e.0 e.1.0 e.1.1))
    (enumerate_from 0 (take l.i (zip (map views.event l.events) (map (λ t. map happening t.items) l.reported))))
