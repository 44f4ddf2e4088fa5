use Rattle.std.proofs.Common.{◌≡◌, List, [], ◌∷◌, true, Option, sym, ap, subst}
use Rattle.std.specs.Prelude.{OnOk}
use Rattle.std.specs.List.{cons_option}
use Rattle.message_defs.specs.Statements as plain
use Rattle.message_defs.specs.Spelling.{IsClaim}
use Rattle.message_defs.specs.Packing.{Signed, signed_of}
use Rattle.stmt_codec.specs.Views.{claim}
use Rattle.sent_claims.specs.Lists.{extended}
use Rattle.sent_claims.specs.Certificates.{all_signed}
use Rattle.sent_claims.specs.Beside.{chosen}
use Rattle.sent_claims.proofs.Walks.{all-get}
use Rattle.sent_claims.proofs.beside.put_heard.Goals as goal

pub put_claim-requires : goal.put_claim-requires
put_claim-requires c = all-get IsClaim c.args.pool.now.pool.heard c.args.place (claim c.in-Some.claim) (sym c.in-Some.ensures) c.requires

pub returns-in-Some : goal.returns-in-Some
returns-in-Some c =
    let one : all_signed (chosen c.args.pool.now.pool.heard (c.args.place ∷ []))
    ≡ signed_of (claim c.in-Some.claim) ∷ [] = ap (λ (o : Option plain.Claim). all_signed (cons_option o [])) (sym c.in-Some.ensures) in
    subst (λ (cs : List Signed). OnOk c.put_claim.result (c.put_claim.new.list ≡ extended true c.args.list.now cs))
    (sym one) c.put_claim.ensures

pub returns-in-None : goal.returns-in-None
returns-in-None c = ap (λ (o : Option plain.Claim). extended true c.args.list.now (all_signed (cons_option o []))) c.in-None.ensures
