use Rattle.std.proofs.Common.{◌≡◌, take}
use Rattle.std.specs.Prelude.{map}
use Rattle.rp_base.specs.Rosters.{keys_of}
use Rattle.rp_base.proofs.roster.Roster.processes.Given as goal

abbrev pub invariant-loop-listed : goal.invariant-loop-listed
invariant-loop-listed l = l.all ≡ map (λ k. k.0) (keys_of (take l.listed-index l.listed-items))
