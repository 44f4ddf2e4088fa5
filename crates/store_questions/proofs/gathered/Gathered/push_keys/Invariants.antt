use Rattle.std.proofs.Common.{◌≡◌, ◌++◌, length}
use Rattle.std.specs.Prelude.{filter_map}
use Rattle.store_defs.specs.Asking.{key_in}
use Rattle.store_question_defs.specs.Inputs.{text_of}
use Rattle.store_questions.specs.Views.{gathered}
use Rattle.store_questions.proofs.gathered.Gathered.push_keys.Given as goal

-- what was written, with the lines of the processes that are left, is all that is to be written
abbrev pub invariant-rest : goal.invariant-rest
invariant-rest l = l.out.items ++ text_of (filter_map (key_in (gathered l.self).keys) l.rest)
    ≡ l.fn.out.items ++ text_of (filter_map (key_in (gathered l.self).keys) l.fn.processes)

abbrev pub decreases-rest : goal.decreases-rest
decreases-rest l = length l.rest
