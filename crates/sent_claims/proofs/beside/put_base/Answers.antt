use Rattle.std.proofs.Common.{◌+◌, List, ℕ, [], ◌∷◌, false, drop, get_or, ap, ◌∙◌}
use Rattle.sent_claims.specs.Certificates.{all_signed}
use Rattle.sent_claims.specs.Beside.{chosen}
use Rattle.sent_claims.proofs.Walks.{drop-number, drop-past}
use Rattle.sent_claims.proofs.Listed.{signed-chosen}
use Rattle.sent_claims.proofs.Ways.{way-next, way-end}
use Rattle.sent_claims.proofs.beside.put_base.Goals as goal

pub places-preserved : goal.places-preserved
places-preserved c =
    let cs = c.args.said.now.claims in
    let p : ℕ = get_or c.args.base.now c.places.place-index 0 in
    let rest : List ℕ = drop (c.places.place-index + 1) c.args.base.now in
    way-next false c.places.list c.put_said.new.list _ _ (all_signed (chosen cs (p ∷ []))) (all_signed (chosen cs rest))
    (ap (λ ps. all_signed (chosen cs ps))
    (drop-number c.args.base.now c.places.place-index c.places-test.true) ∙ signed-chosen cs p rest) c.places.invariant
    c.in_ok-put_said.ensures

pub returns : goal.returns
returns c = way-end false c.places.list _ _
    (ap (λ ps. all_signed (chosen c.args.said.now.claims ps))
    (drop-past c.args.base.now c.places.place-index c.places-test.false)) c.places.invariant
