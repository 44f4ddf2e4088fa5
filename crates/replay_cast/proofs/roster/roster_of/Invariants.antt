use Rattle.std.proofs.Common.{◌≡◌, map, take}
use Rattle.replay_cast.specs.Keyed.{entry}
use Rattle.replay_cast.proofs.roster.roster_of.Given as goal

abbrev pub invariant-loop-one : goal.invariant-loop-one
invariant-loop-one l = l.roster ≡ take l.one-index (map entry l.entries)
