use Rattle.std.proofs.Common.{◌≡◌, [], map, sym, ap, ◌∙◌, arith}
use Rattle.std.specs.Vec.Iter.{into_iter_items}
use Rattle.std.proofs.lemmas.List.{nil_from_length}
use Rattle.stmt_codec.specs.Views.{signed}
use Rattle.audit_claims.proofs.OwnWords.{all-said, none-seen, one-seen}
use Rattle.audit_claims.proofs.signing.see_signed.Goals as goal

pub claims-init : goal.claims-init
claims-init c = λ s before own said e range valid saw.
    none-seen s before own said (into_iter_items c.into_iter-left.result) c.args.all.now (e ∙ ap (map signed) (sym c.into_iter-left.ensures.rest)) saw

pub claims-preserved : goal.claims-preserved
claims-preserved c = λ s before own said e range valid saw.
    one-seen s before own said c.in-Some.claim (into_iter_items c.next.new.self) c.claims.all c.see_trimmed.new.all range valid
    (c.in_ok-see_trimmed.ensures.seen s) (into_iter_items c.claims.left) c.in-Some.ensures.items (c.claims.invariant s before own said e range valid saw)

pub returns : goal.returns
returns c =
    let none : into_iter_items c.claims.left
    ≡ [] = nil_from_length (into_iter_items c.claims.left) (omega (arith, c.in_default.ensures.cases.0, c.claims.left.rest.ok.0)) in
    record {
      seen = λ s before own said e range valid saw.
          all-said s before own said (into_iter_items c.claims.left) c.claims.all none (c.claims.invariant s before own said e range valid saw);
    }
