use Rattle.std.proofs.Common.{◌∙◌, ◌++◌, ap, refl, sym}
use Rattle.std.proofs.lemmas.Bool.{ltb-true}
use Rattle.std.proofs.lemmas.List.{append-nil}
use Rattle.stmt_codec.specs.Left.{claims_left}
use Rattle.stmt_codec.specs.Views.{claim as claim_of}
use Rattle.conviction.specs.Own.{all_kept, claims_of_signer}
use Rattle.conviction.proofs.Kept.{next-other, next-own, room}
use Rattle.conviction.proofs.reading.own_claims.Goals as goal

pub claims-init : goal.claims-init
claims-init c = ap (λ owns. all_kept owns ++ claims_of_signer (claims_left c.args.claims) c.args.q) c.new-own.ensures

pub push-requires : goal.push-requires
push-requires c = (
  ltb-true _ _ refl,
  room c.claims.own.items (claim_of c.in-Some.claim) (claims_left c.claims.left) (claims_left c.next.new.self)
      (claims_left c.args.claims) c.args.q c.claims.invariant c.in-Some.ensures.steps (sym c.eq.ensures ∙ c.if-eq.true) c.requires,
)

pub claims-preserved-then-eq : goal.claims-preserved-then-eq
claims-preserved-then-eq c =
    ap (λ owns. all_kept owns ++ claims_of_signer (claims_left c.next.new.self) c.args.q) c.push.ensures.items
    ∙ next-own c.claims.own.items (record { 0 = c.in-Some.claim }) (claims_left c.claims.left) (claims_left c.next.new.self)
    (claims_left c.args.claims) c.args.q c.claims.invariant c.in-Some.ensures.steps (sym c.eq.ensures ∙ c.if-eq.true)

pub claims-preserved : goal.claims-preserved
claims-preserved c =
    next-other c.claims.own.items (claim_of c.in-Some.claim) (claims_left c.claims.left) (claims_left c.next.new.self)
    (claims_left c.args.claims) c.args.q c.claims.invariant c.in-Some.ensures.steps (sym c.eq.ensures ∙ c.if-eq.false)

pub returns : goal.returns
returns c =
    sym (append-nil (all_kept c.claims.own.items))
    ∙ ap (λ cs. all_kept c.claims.own.items ++ claims_of_signer cs c.args.q) (sym c.in_default.ensures.steps.0)
    ∙ c.claims.invariant
