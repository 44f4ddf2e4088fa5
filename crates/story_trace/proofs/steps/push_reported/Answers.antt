use Rattle.std.proofs.Common.{◌∷◌, [], List, ℕ, map, ap, sym, ◌∙◌, ◌++◌}
use Rattle.std.specs.List.{flat_map}
use Rattle.text_defs.specs.Words.{line_text}
use Rattle.schedule_file.specs.Views.{event}
use Rattle.trace_defs.specs.Events.{event_line}
use Rattle.trace_defs.specs.Happenings.{lines_of}
use Rattle.happenings.specs.Reported.{happening}
use Rattle.story_trace.proofs.Behind.{single, more_of, each_of}
use Rattle.story_trace.proofs.steps.push_reported.Goals as goal

pub returns : goal.returns
returns c =
    let first : List ℕ = c.args.out.now.items in
    let reported = map happening c.args.reported.now in
    let line = event_line c.args.n (event c.args.event.now) in
    more_of line_text (line ∷ []) (flat_map lines_of reported) first c.push_event.new.out.items c.push_all.new.out.items
    (single line_text line first c.push_event.new.out.items c.in_ok-push_event.ensures)
    (c.in_ok-push_all.ensures ∙ ap (λ (t : List ℕ). c.push_event.new.out.items ++ t) (sym (each_of line_text lines_of reported)))
