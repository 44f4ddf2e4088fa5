use Rattle.std.proofs.Common.{List, ap, ◌∙◌, map, inl, inr, ◌++◌}
use Rattle.std.specs.Prelude.{Vec}
use Rattle.std.specs.List.{flat_map}
use Rattle.std.specs.declared.alloc.Global.{Global}
use Rattle.text_defs.specs.Words.{line_text}
use Rattle.schedule_file.specs.Views.{event}
use Rattle.trace_defs.specs.Happenings as plain
use Rattle.reported_defs.specs.Reported.{event_lines}
use Rattle.happenings.specs.declared.reported.Happening.{Happening}
use Rattle.happenings.specs.Reported.{happening}
use Rattle.story_trace.proofs.Behind.{paired_more, paired_all}
use Rattle.story_trace.proofs.trace.push_events.Goals as goal

-- what happens in an event
abbrev in_event : Vec Happening Global → List plain.Happening
in_event reported = map happening reported.items

pub loop-i-preserved : goal.loop-i-preserved
loop-i-preserved c =
    paired_more (λ e. flat_map line_text (event_lines e.0 e.1.0 e.1.1)) event in_event c.args.events.now c.args.reported.now c.loop-i.i
    c.in-Some.event.now c.index-reported-i.result c.args.out.now.items c.loop-i.out.items c.push_reported.new.out.items
    c.in-Some.ensures.lookup.3.0 c.in-Some.ensures.lookup.1 c.loop-i-test.true c.index-reported-i.is c.loop-i.invariant
    (c.in_ok-push_reported.ensures ∙ ap
    (λ (all : List Happening). c.loop-i.out.items
    ++ flat_map line_text (event_lines c.loop-i.i (event c.in-Some.event.now) (map happening all))) c.deref.ensures.value)

pub returns-in_default : goal.returns-in_default
returns-in_default c =
    paired_all line_text (λ e. event_lines e.0 e.1.0 e.1.1) event in_event c.args.events.now c.args.reported.now c.loop-i.i c.args.out.now.items
    c.loop-i.out.items (inl c.in_default.ensures.lookup.3) c.loop-i.invariant

pub returns : goal.returns
returns c =
    paired_all line_text (λ e. event_lines e.0 e.1.0 e.1.1) event in_event c.args.events.now c.args.reported.now c.loop-i.i c.args.out.now.items
    c.loop-i.out.items (inr c.loop-i-test.false) c.loop-i.invariant
