use Rattle.std.proofs.Common.{◌≡◌, ◌++◌, take}
use Rattle.std.specs.List.{flat_map, enumerate_from}
use Rattle.text_defs.specs.Words.{line_text}
use Rattle.trace_defs.specs.Outcomes.{sent_line}
use Rattle.story_trace.proofs.steps.push_sends.Given as goal

abbrev pub invariant-loop-i : goal.invariant-loop-i
invariant-loop-i l = l.out.items ≡ l.fn.out.items
    ++ flat_map (λ e. line_text (sent_line l.at e)) (enumerate_from l.first (take l.i l.sends))
