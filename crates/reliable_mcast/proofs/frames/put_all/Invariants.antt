use Rattle.std.proofs.Common.{◌≡◌, drop, false}
use Rattle.sent_claims.specs.Lists.{extended}
use Rattle.reliable_mcast.proofs.frames.put_all.Given as goal

abbrev pub invariant-claims : goal.invariant-claims
invariant-claims l = extended false l.list (drop l.place l.other) ≡ extended false l.fn.list l.other
