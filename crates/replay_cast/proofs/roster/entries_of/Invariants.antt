use Rattle.std.proofs.Common.{◌≡◌, map, take}
use Rattle.replay_cast.specs.Keyed.{entry, key_of}
use Rattle.replay_cast.proofs.roster.entries_of.Given as goal

abbrev pub invariant-loop-one : goal.invariant-loop-one
invariant-loop-one l = map entry l.entries.items ≡ map key_of (take l.one-index l.all)
