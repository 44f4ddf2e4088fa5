use Rattle.std.proofs.Common.{take}
use Rattle.interop_runs.specs.Questions.{Each, IsCall}
use Rattle.interop_runs.proofs.Lists.{reported}
use Rattle.interop_runs.proofs.fields.read_calls.Given as goal

-- the items before this one are read
abbrev pub invariant-loop-item : goal.invariant-loop-item
invariant-loop-item l = Each IsCall (reported (take l.item-index l.item-items)) l.calls.items
