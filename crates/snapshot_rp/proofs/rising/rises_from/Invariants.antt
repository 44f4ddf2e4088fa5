use Rattle.std.proofs.Common.{◌≡◌, ◌∷◌, drop}
use Rattle.snapshot_defs.specs.Reading.{rises}
use Rattle.snapshot_rp.proofs.rising.rises_from.Given as goal

-- the last one and those that are left rise where all do
abbrev pub invariant-rest : goal.invariant-rest
invariant-rest g l = rises g.T.Keyed.key (l.last ∷ drop l.next-index l.rest) ≡ rises g.T.Keyed.key (l.fn.first ∷ l.rest)
