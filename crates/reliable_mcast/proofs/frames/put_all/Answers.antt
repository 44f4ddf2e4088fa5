use Rattle.std.proofs.Common.{◌≡◌, false, drop, length, ap, ◌+◌, ◌∷◌, [], arith}
use Rattle.sent_claims.specs.Lists.{lent_claim}
use Rattle.sent_claims.proofs.Walks.{drop-get, drop-past}
use Rattle.sent_claims.proofs.Ways.{way-next, way-end}
use Rattle.reliable_mcast.proofs.frames.put_all.Goals as goal

pub claims-preserved : goal.claims-preserved
claims-preserved c =
    way-next false c.claims.list c.put.new.self _ _ (lent_claim c.at.result ∷ []) (drop (c.claims.place + 1) c.args.other.now)
    (drop-get c.args.other.now c.claims.place (lent_claim c.at.result) c.at.ensures.claim) c.claims.invariant c.in_ok-put.ensures

pub returns-in_err-put-clause-none : goal.returns-in_err-put-clause-none
returns-in_err-put-clause-none c = λ e.
    let none : length c.args.other.now ≡ 0 = ap length e in
    absurd (omega arith)

pub returns-clause-list : goal.returns-clause-list
returns-clause-list c = way-end false c.claims.list _ _ (drop-past c.args.other.now c.claims.place (omega arith)) c.claims.invariant
