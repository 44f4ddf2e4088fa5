use Rattle.std.proofs.Common.{◌≡◌, ◌++◌, map, take}
use Rattle.std.specs.List.{flat_map}
use Rattle.text_defs.specs.Words.{line_text}
use Rattle.trace_defs.specs.Happenings.{lines_of}
use Rattle.happenings.specs.Reported.{happening}
use Rattle.story_trace.proofs.steps.push_all.Given as goal

abbrev pub invariant-loop-happening : goal.invariant-loop-happening
invariant-loop-happening l = l.out.items ≡ l.fn.out.items
    ++ flat_map (λ x. flat_map line_text (lines_of x)) (map happening (take l.happening-index l.reported))
