use Rattle.std.proofs.Common.{◌≡◌, map}
use Rattle.signature_defs.specs.Secrets.{public_key_of}
use Rattle.kit_defs.specs.KitMaking.{first_numbers, derived_secret}
use Rattle.kit_making.proofs.making.make_roster.Given as goal

abbrev pub invariant-loop-p : goal.invariant-loop-p
invariant-loop-p l = l.roster ≡ map (λ p. (p, public_key_of (derived_secret l.keys l.seed p))) (first_numbers l.p)
