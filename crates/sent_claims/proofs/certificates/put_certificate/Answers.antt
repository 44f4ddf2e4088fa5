use Rattle.std.proofs.Common.{◌≡◌, sym, ap, ◌∙◌, subst, length, List, []}
use Rattle.std.specs.Prelude.{IsOk, OnOk}
use Rattle.message_defs.specs.Packing.{Signed}
use Rattle.group_defs.specs.Views as views
use Rattle.pool_questions.specs.Certificates.{content_of}
use Rattle.stmt_codec.specs.Views.{slot}
use Rattle.sent_claims.specs.Lists.{extended}
use Rattle.sent_claims.proofs.Certified.{certificate-parts}
use Rattle.sent_claims.proofs.certificates.put_certificate.Goals as goal

pub returns : goal.returns
returns g c =
    let count = c.quorum-count.ensures.value ∙ ap (λ ms. views.quorum (length ms))
    (c.members.ensures.value ∙ ap (λ (v : views.View). v.members) c.view.ensures) in
    let parts = certificate-parts c.args.pool.now.pool (slot c.number.result c.args.about.now) (slot g.K.CertKind.kind c.args.about.now)
    (content_of c.in-Some.certificate) c.signers.result c.quorum-count.result
    (ap (λ k. slot k c.args.about.now) c.number.ensures) (sym c.in-Some.ensures.content)
    (c.signers.ensures ∙ c.in-Some.ensures.signers) count in
    record {
      list = subst (λ (cs : List Signed). OnOk c.put_first.result (c.put_first.new.list ≡ extended c.args.once c.args.list.now cs))
          (sym parts) c.put_first.ensures.list;
      none = subst (λ (cs : List Signed). cs ≡ [] → IsOk c.put_first.result) (sym parts) c.put_first.ensures.none;
    }
