use Rattle.std.proofs.Common.{◌≡◌, drop, false}
use Rattle.sent_claims.specs.Lists.{extended}
use Rattle.sent_claims.specs.Certificates.{all_signed}
use Rattle.sent_claims.specs.Beside.{chosen}
use Rattle.sent_claims.proofs.beside.put_base.Given as goal

abbrev pub invariant-places : goal.invariant-places
invariant-places l = extended false l.list (all_signed (chosen l.said.claims (drop l.place-index l.base)))
    ≡ extended false l.fn.list (all_signed (chosen l.said.claims l.base))
