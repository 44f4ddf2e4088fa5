use Rattle.std.proofs.Common.{◌≡◌, drop}
use Rattle.std.specs.Prelude.{find, ◌==◌}
use Rattle.rp_base.specs.Rosters.{keys_of}
use Rattle.rp_base.proofs.roster.Roster.key.Given as goal

abbrev pub invariant-loop-listed : goal.invariant-loop-listed
invariant-loop-listed l = find (λ k. k.0 == l.process) (keys_of (drop l.listed-index l.listed-items))
    ≡ find (λ k. k.0 == l.process) (keys_of l.listed-items)
