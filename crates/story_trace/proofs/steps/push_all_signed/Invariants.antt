use Rattle.std.proofs.Common.{◌≡◌, ◌++◌, map, take}
use Rattle.std.specs.List.{flat_map}
use Rattle.text_defs.specs.Words.{line_text}
use Rattle.member_events.specs.Below.{signed}
use Rattle.trace_defs.specs.Outcomes.{signed_line}
use Rattle.story_trace.proofs.steps.push_all_signed.Given as goal

abbrev pub invariant-loop-claim : goal.invariant-loop-claim
invariant-loop-claim l = l.out.items ≡ l.fn.out.items
    ++ flat_map line_text (map (signed_line l.at) (map signed (take l.claim-index l.signed)))
