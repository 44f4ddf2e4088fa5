use Rattle.claim_firsts.specs.Reported.{AreSpelled}
use Rattle.audit_core.proofs.Reported.{all-at}
use Rattle.audit_core.proofs.convicted.own_convictions.Goals as goal

pub own_conviction-requires : goal.own_conviction-requires
own_conviction-requires c = all-at AreSpelled c.args.lent.now c.loop-one.one-index c.one-item.result c.requires c.loop-one-test.true c.one-item.is
