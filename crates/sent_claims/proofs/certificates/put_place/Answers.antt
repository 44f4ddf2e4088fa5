use Rattle.std.proofs.Common.{◌≡◌, ◌++◌, ap, sym, ◌∙◌, subst, List}
use Rattle.std.specs.Prelude.{OnOk}
use Rattle.message_defs.specs.Packing.{Signed}
use Rattle.message_defs.specs.Statements.{PlaceAt, KeepAt}
use Rattle.group_defs.specs.Views as views
use Rattle.group_defs.specs.Process.{Pool}
use Rattle.group_defs.specs.Certified.{certificate_on}
use Rattle.sent_claims.specs.Certificates.{all_signed, messages_at}
use Rattle.sent_claims.proofs.Ways.{place-last, place-parts, none-first, none-others}
use Rattle.sent_claims.proofs.certificates.put_place.Goals as goal

pub returns-clause-list : goal.returns-clause-list
returns-clause-list c =
    let h : Pool = c.args.pool.now.pool in
    let number : c.number-view.result ≡ h.view.number = c.number-view.ensures.value ∙ ap (λ (v : views.View). v.number) c.view.ensures in
    subst (λ (cs : List Signed). OnOk c.put_certificate-2.result (c.put_certificate-2.new.list ≡ cs))
    (place-last h c.args.place c.number-view.result c.args.list.now c.put_certificate.new.list c.put_placed.new.list number
    c.in_ok-put_certificate.ensures.list c.in_ok-put_placed.ensures.list) c.put_certificate-2.ensures.list

pub returns-in_err-put_certificate-clause-none : goal.returns-in_err-put_certificate-clause-none
returns-in_err-put_certificate-clause-none c = λ e.
    let h : Pool = c.args.pool.now.pool in
    let x = c.number-view.result in
    let number : x ≡ h.view.number = c.number-view.ensures.value ∙ ap (λ (v : views.View). v.number) c.view.ensures in
    absurd (cc (c.in_err-put_certificate.ensures.none (none-first (all_signed (certificate_on h (PlaceAt x c.args.place)))
    (all_signed (messages_at h c.args.place) ++ all_signed (certificate_on h (KeepAt x c.args.place)))
    (sym (place-parts h c.args.place x number) ∙ e))))

pub returns-in_err-put_placed-clause-none : goal.returns-in_err-put_placed-clause-none
returns-in_err-put_placed-clause-none c = λ e.
    let h : Pool = c.args.pool.now.pool in
    let x = c.number-view.result in
    let number : x ≡ h.view.number = c.number-view.ensures.value ∙ ap (λ (v : views.View). v.number) c.view.ensures in
    let keep = all_signed (certificate_on h (KeepAt x c.args.place)) in
    absurd (cc (c.in_err-put_placed.ensures.none (none-first (all_signed (messages_at h c.args.place)) keep
    (none-others (all_signed (certificate_on h (PlaceAt x c.args.place))) (all_signed (messages_at h c.args.place) ++ keep)
    (sym (place-parts h c.args.place x number) ∙ e)))))

pub returns-clause-none : goal.returns-clause-none
returns-clause-none c = λ e.
    let h : Pool = c.args.pool.now.pool in
    let x = c.number-view.result in
    let number : x ≡ h.view.number = c.number-view.ensures.value ∙ ap (λ (v : views.View). v.number) c.view.ensures in
    let keep = all_signed (certificate_on h (KeepAt x c.args.place)) in
    c.put_certificate-2.ensures.none (none-others (all_signed (messages_at h c.args.place)) keep
    (none-others (all_signed (certificate_on h (PlaceAt x c.args.place))) (all_signed (messages_at h c.args.place) ++ keep)
    (sym (place-parts h c.args.place x number) ∙ e)))
