use Rattle.std.proofs.Common.{◌+◌, List, ℕ, [], ◌∷◌, true, drop, get_or, ap, ◌∙◌}
use Rattle.std.specs.Prelude.{flat_map}
use Rattle.group_defs.specs.Sending.{beside_suggest}
use Rattle.sent_claims.specs.Certificates.{all_signed}
use Rattle.sent_claims.specs.Beside.{statements_at}
use Rattle.sent_claims.proofs.Walks.{drop-number, drop-past}
use Rattle.sent_claims.proofs.Listed.{beside-next}
use Rattle.sent_claims.proofs.Ways.{way-next, way-end}
use Rattle.sent_claims.proofs.beside.put_suggests.Goals as goal

pub places-preserved : goal.places-preserved
places-preserved c =
    let cs = c.args.said.now.claims in
    let f = beside_suggest c.args.pool.now.pool in
    let p : ℕ = get_or c.args.base.now c.places.place-index 0 in
    let rest : List ℕ = drop (c.places.place-index + 1) c.args.base.now in
    way-next true c.places.list c.put_suggest_at.new.list _ _ (all_signed (flat_map f (statements_at cs (p ∷ []))))
    (all_signed (flat_map f (statements_at cs rest)))
    (ap (λ ps. all_signed (flat_map f (statements_at cs ps)))
    (drop-number c.args.base.now c.places.place-index c.places-test.true) ∙ beside-next f cs p rest) c.places.invariant
    c.in_ok-put_suggest_at.ensures

pub returns : goal.returns
returns c = way-end true c.places.list _ _
    (ap (λ ps. all_signed (flat_map (beside_suggest c.args.pool.now.pool) (statements_at c.args.said.now.claims ps)))
    (drop-past c.args.base.now c.places.place-index c.places-test.false)) c.places.invariant
