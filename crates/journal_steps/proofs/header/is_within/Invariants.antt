use Rattle.std.proofs.Common.{◌≡◌, length}
use Rattle.std.specs.List.{list_all}
use Rattle.byte_defs.specs.Members.{has}
use Rattle.journal_steps.proofs.header.is_within.Given as goal

abbrev pub invariant-rest : goal.invariant-rest
invariant-rest l = list_all (has l.other) l.rest ≡ list_all (has l.other) l.fn.set

abbrev pub decreases-rest : goal.decreases-rest
decreases-rest l = length l.rest
