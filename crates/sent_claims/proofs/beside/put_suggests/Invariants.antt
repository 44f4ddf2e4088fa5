use Rattle.std.proofs.Common.{◌≡◌, drop, true}
use Rattle.std.specs.Prelude.{flat_map}
use Rattle.group_defs.specs.Sending.{beside_suggest}
use Rattle.sent_claims.specs.Lists.{extended}
use Rattle.sent_claims.specs.Certificates.{all_signed}
use Rattle.sent_claims.specs.Beside.{statements_at}
use Rattle.sent_claims.proofs.beside.put_suggests.Given as goal

abbrev pub invariant-places : goal.invariant-places
invariant-places l = extended true l.list
    (all_signed (flat_map (beside_suggest l.pool.pool) (statements_at l.said.claims (drop l.place-index l.base))))
    ≡ extended true l.fn.list (all_signed (flat_map (beside_suggest l.pool.pool) (statements_at l.said.claims l.base)))
