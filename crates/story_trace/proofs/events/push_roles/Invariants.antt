use Rattle.std.proofs.Common.{◌≡◌, ◌++◌, map, take}
use Rattle.std.specs.List.{flat_map}
use Rattle.text_defs.specs.Words.{line_text}
use Rattle.schedule_file.specs.Views.{listed}
use Rattle.trace_defs.specs.Events.{role_line}
use Rattle.story_trace.proofs.events.push_roles.Given as goal

abbrev pub invariant-loop-one : goal.invariant-loop-one
invariant-loop-one l = l.out.items ≡ l.fn.out.items ++ flat_map line_text (map role_line (map listed (take l.one-index l.processes)))
