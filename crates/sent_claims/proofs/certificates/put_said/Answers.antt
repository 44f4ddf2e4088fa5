use Rattle.std.proofs.Common.{◌≡◌, List, [], ◌∷◌, Option, Some, sym, ap, ◌∙◌, subst}
use Rattle.std.specs.Prelude.{OnOk}
use Rattle.std.specs.Option.{option_map}
use Rattle.std.specs.List.{cons_option}
use Rattle.message_defs.specs.Statements as plain
use Rattle.message_defs.specs.Packing.{Signed, signed_of}
use Rattle.stmt_codec.specs.Views.{claim, slot}
use Rattle.sent_claims.specs.Lists.{extended}
use Rattle.sent_claims.specs.Certificates.{all_signed, said_on, said_by}
use Rattle.sent_claims.proofs.Certified.{said-ranged}
use Rattle.sent_claims.proofs.certificates.put_said.Goals as goal

pub put_claim-requires : goal.put_claim-requires
put_claim-requires c = said-ranged c.args.pool.now.pool (slot c.args.kind c.args.about.now) c.args.member (claim c.in-Some.claim) c.requires
    (sym c.heard_claim.ensures.value ∙ ap (option_map claim) c.in-Some.is)

pub returns-in-Some-clause-list : goal.returns-in-Some-clause-list
returns-in-Some-clause-list c =
    let said : said_on c.args.pool.now.pool (slot c.args.kind c.args.about.now) c.args.member
    ≡ Some (claim c.in-Some.claim) = sym c.heard_claim.ensures.value ∙ ap (option_map claim) c.in-Some.is in
    let one : all_signed (said_by c.args.pool.now.pool (slot c.args.kind c.args.about.now) (c.args.member ∷ []))
    ≡ signed_of (claim c.in-Some.claim) ∷ [] = ap (λ (o : Option plain.Claim). all_signed (cons_option o [])) said in
    subst (λ (cs : List Signed). OnOk c.put_claim.result (c.put_claim.new.list ≡ extended c.args.once c.args.list.now cs))
    (sym one) c.put_claim.ensures

pub returns-in-Some-clause-none : goal.returns-in-Some-clause-none
returns-in-Some-clause-none c = λ none.
    let said : said_on c.args.pool.now.pool (slot c.args.kind c.args.about.now) c.args.member
    ≡ Some (claim c.in-Some.claim) = sym c.heard_claim.ensures.value ∙ ap (option_map claim) c.in-Some.is in
    let one : all_signed (said_by c.args.pool.now.pool (slot c.args.kind c.args.about.now) (c.args.member ∷ []))
    ≡ signed_of (claim c.in-Some.claim) ∷ [] = ap (λ (o : Option plain.Claim). all_signed (cons_option o [])) said in
    absurd cc
