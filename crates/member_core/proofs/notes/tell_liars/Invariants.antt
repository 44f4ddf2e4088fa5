use Rattle.std.proofs.Common.{◌≡◌, ◌++◌, map}
use Rattle.member_signing.specs.States.{note}
use Rattle.member_core.specs.Outcomes.{liars_from}
use Rattle.member_core.proofs.notes.tell_liars.Given as goal

abbrev pub invariant-pairs : goal.invariant-pairs
invariant-pairs l = map note l.notes.items ++ liars_from l.place l.conflicts.pairs ≡ map note l.fn.notes.items
    ++ liars_from l.from l.conflicts.pairs
