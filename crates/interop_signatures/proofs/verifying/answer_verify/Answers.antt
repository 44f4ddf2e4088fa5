use Rattle.std.proofs.Common.{◌≡◌, Bool, refl, ap, ◌∙◌}
use Rattle.std.specs.Prelude.{codes, if◌then◌else◌}
use Rattle.interop_signatures.specs.Schemes.{is_valid}
use Rattle.interop_signatures.proofs.SignatureLaws.{verify_answers}
use Rattle.interop_signatures.proofs.verifying.answer_verify.Goals as goal

pub returns-clause-answers : goal.returns-clause-answers
returns-clause-answers c =
    let scheme = c.in_ok-scheme.scheme in
    let answers = verify_answers scheme _ _ _ _ _ _ _ c.in_ok-scheme.ensures.read c.in_ok-key.ensures.read c.in_ok-body.ensures.read
    c.in_ok-sig.ensures.read in
    let items = c.in_ok-to_vec.ensures.items_if_clones_equal (λ x y e. e) in
    let valid : c.is_valid-valid.result ≡ is_valid scheme c.in_ok-key.key.items c.in_ok-body.body.items c.in_ok-sig.sig.items =
    c.is_valid-valid.ensures ∙ rw (c.deref.ensures.value, c.deref-2.ensures.value, c.deref-3.ensures.value) refl in
    let reported = items ∙ c.verdict.ensures ∙ ap (λ (b : Bool). if b then codes "true" else codes "false") valid in
    rw reported answers
