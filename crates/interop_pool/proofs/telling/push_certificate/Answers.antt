use Rattle.std.proofs.Common.{◌∙◌, ◌++◌, ℕ, List, ap}
use Rattle.std.proofs.lemmas.Result.{on_ok_weaker}
use Rattle.message_defs.specs.Statements.{Statement, same_statement, slot_of}
use Rattle.group_defs.specs.Certified.{certified_on}
use Rattle.stmt_codec.specs.Views.{stmt}
use Rattle.claim_pool.specs.Certificates.{content_of}
use Rattle.pool_laws.proofs.Heard.{certified_on-is}
use Rattle.interop_pool.specs.Telling.{same_word}
use Rattle.interop_pool.proofs.Heard.{certificate-reported, certified-there, same-test}
use Rattle.interop_pool.proofs.telling.push_certificate.Goals as goal

pub returns : goal.returns
returns g c =
    let h = c.args.pool.now.pool in
    let st = stmt c.args.statement.now in
    let found = content_of c.in-Some.certificate in
    let there = certified-there h st _ c.slot_of.result _ c.requires c.slot_of.ensures c.in-Some.ensures.content in
    let slots = ap slot_of c.content.ensures ∙ (certified_on-is h (slot_of st) found there).1 in
    let same = same-test c.conflicts.result (stmt c.content.result.now) st slots c.conflicts.ensures
    ∙ ap (λ (x : Statement). same_statement x st) c.content.ensures in
    let reported = c.in_ok-extend_from_slice.ensures.items
    ∙ ap (λ (w : List ℕ). c.args.out.now.items ++ w) (c.same_word.ensures ∙ ap same_word same) in
    on_ok_weaker c.push_signers.result (certificate-reported h st found (certified_on h (slot_of st)) _ c.args.out.now.items _ _ there reported
    (c.signers.ensures ∙ c.in-Some.ensures.signers)) c.push_signers.ensures
