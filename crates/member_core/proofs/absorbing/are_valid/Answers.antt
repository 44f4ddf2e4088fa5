use Rattle.member_core.proofs.Judging.{one-passed, one-fails}
use Rattle.member_core.proofs.absorbing.are_valid.Goals as goal

pub returns-then-not-is_valid : goal.returns-then-not-is_valid
returns-then-not-is_valid g c =
    one-fails (g.V.Scheme.valid c.args.judge.now.scheme.now) c.args.judge.now.group.now c.args.judge.now.roster.now c.args.claims.now
    c.claims.own-index c.own-item.result c.claims-test.true c.own-item.is
    c.claims.invariant c.is_valid.result c.is_valid.ensures c.if-not-is_valid.true

pub claims-preserved : goal.claims-preserved
claims-preserved g c =
    one-passed (g.V.Scheme.valid c.args.judge.now.scheme.now) c.args.judge.now.group.now c.args.judge.now.roster.now c.args.claims.now
    c.claims.own-index c.own-item.result c.claims-test.true c.own-item.is
    c.claims.invariant c.is_valid.result c.is_valid.ensures c.if-not-is_valid.false
