use Rattle.std.proofs.Common.{List, ap, ◌∙◌, ◌++◌, map, length}
use Rattle.std.specs.Prelude.{Vec, option_map}
use Rattle.std.specs.List.{flat_map}
use Rattle.std.specs.declared.alloc.Global.{Global}
use Rattle.text_defs.specs.Words.{line_text}
use Rattle.schedule_file.specs.declared.schedule.ScheduleEvent.{ScheduleEvent}
use Rattle.schedule_file.specs.Views.{event, schedule}
use Rattle.trace_defs.specs.Events.{cast_lines}
use Rattle.trace_defs.specs.Happenings as plain
use Rattle.reported_defs.specs.Reported.{reported_lines, stop_lines}
use Rattle.happenings.specs.declared.reported.Happening.{Happening}
use Rattle.happenings.specs.Reported.{happening, stopped}
use Rattle.story_trace.proofs.Behind.{three_of}
use Rattle.story_trace.proofs.trace.push_trace.Goals as goal

-- what happens in an event
abbrev in_event : Vec Happening Global → List plain.Happening
in_event reported = map happening reported.items

pub returns : goal.returns
returns c =
    let sch = schedule c.args.schedule.now in
    let reported = map in_event c.args.reported.now in
    let n = length c.args.reported.now in
    let stop = option_map stopped c.args.stop in
    three_of line_text (cast_lines sch.header) (reported_lines sch.events reported) (stop_lines sch.events n stop) c.args.out.now.items
    c.push_cast.new.out.items c.push_events.new.out.items c.push_stop.new.out.items
    c.in_ok-push_cast.ensures
    (c.in_ok-push_events.ensures ∙ ap
    (λ (es : List ScheduleEvent). c.push_cast.new.out.items ++ flat_map line_text (reported_lines (map event es) reported)) c.deref.ensures.value)
    (c.in_ok-push_stop.ensures ∙ ap
    (λ (es : List ScheduleEvent). c.push_events.new.out.items
    ++ flat_map line_text (stop_lines (map event es) n stop)) c.deref-2.ensures.value)
