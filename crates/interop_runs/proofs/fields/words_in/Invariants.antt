use Rattle.std.proofs.Common.{take}
use Rattle.interop_runs.specs.Questions.{Each, IsWord}
use Rattle.interop_runs.proofs.Lists.{reported}
use Rattle.interop_runs.proofs.fields.words_in.Given as goal

-- the parts before this one are words
abbrev pub invariant-loop-part : goal.invariant-loop-part
invariant-loop-part l = Each IsWord (reported (take l.part-index l.part-items)) l.words.items
