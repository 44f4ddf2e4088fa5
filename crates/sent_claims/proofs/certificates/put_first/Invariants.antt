use Rattle.std.proofs.Common.{◌≡◌, ◌-◌, [], take}
use Rattle.stmt_codec.specs.Views.{slot}
use Rattle.sent_claims.specs.Lists.{extended}
use Rattle.sent_claims.specs.Certificates.{all_signed, said_by}
use Rattle.sent_claims.proofs.certificates.put_first.Given as goal

abbrev pub invariant-members : goal.invariant-members
invariant-members l = record {
  way : extended l.once l.list (all_signed (said_by l.pool.pool (slot l.kind l.about) (take (l.count - l._done) l.left)))
      ≡ extended l.once l.fn.list (all_signed (said_by l.pool.pool (slot l.kind l.about) (take l.count l.fn.members)));
  none : all_signed (said_by l.pool.pool (slot l.kind l.about) (take l.count l.fn.members)) ≡ []
      → all_signed (said_by l.pool.pool (slot l.kind l.about) (take (l.count - l._done) l.left)) ≡ [];
}
