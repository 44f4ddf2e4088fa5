use Rattle.std.proofs.Common.{◌≡◌, ◌++◌, List, map, false, sym, ap, subst, ◌∙◌}
use Rattle.std.specs.Prelude.{flat_map}
use Rattle.std.specs.Bool.{OnTrue}
use Rattle.std.proofs.lemmas.List.{append-nil}
use Rattle.std.proofs.lemmas.Result.{on_ok_weaker}
use Rattle.message_defs.specs.Statements.{Claim}
use Rattle.group_defs.specs.Process.{Pool}
use Rattle.group_defs.specs.Sending.{Bundle, bundle, frames_of, others, unless_empty, with_what_goes_beside}
use Rattle.sent_claims.specs.Beside.{chosen}
use Rattle.member_taking.specs.States.{frame_to, frames_to}
use Rattle.member_sending.specs.Sends.{each_to}
use Rattle.member_sending.proofs.Parcels.{bundle-to, bundle-none}
use Rattle.member_sending.proofs.Own.{real-ranged, real-said, has-done, others-are, bundle-is, bundle-silent}
use Rattle.member_sending.proofs.bundle.send_bundle.Goals as goal

pub resend-requires-clause-range : goal.resend-requires-clause-range
resend-requires-clause-range c = real-ranged c.args.state.now c.requires.real

pub resend-requires-clause-said : goal.resend-requires-clause-said
resend-requires-clause-said c = real-said c.args.state.now c.requires.real

pub returns-then-is_nobody-clause-sent : goal.returns-then-is_nobody-clause-sent
returns-then-is_nobody-clause-sent c = λ s began p begin is.
    let st = c.args.state.now in
    let to : c.others-to.result ≡ others began began.pool.view = c.others-to.ensures ∙ others-are began began.pool.view c.view.result.now
    st.own.me (begin.number ∙ is.place.number) (begin.view ∙ ap (λ (h : Pool). h.view) is.place.pool ∙ sym c.view.ensures) in
    sym (append-nil (map frame_to c.args.sends.now.items))
    ∙ ap (λ es. map frame_to c.args.sends.now.items ++ es)
    (sym (bundle-none (bundle c.args.tick began p) (others began began.pool.view)
    (sym to ∙ c.is_nobody.ensures.nobody c.if-is_nobody.true)))

pub returns-clause-sent : goal.returns-clause-sent
returns-clause-sent c = λ s began p begin is.
    let st = c.args.state.now in
    let done = has-done s p began st begin.number begin.delivered is in
    let base : List Claim = chosen st.said.claims c.as_slice.result.now in
    let cs : List Claim = with_what_goes_beside began st.pool.pool base in
    let same = bundle-is c.args.tick c.args.newly s p began st base begin is
    (ap (chosen st.said.claims) c.as_slice.ensures.value ∙ c.in_ok-base_places.ensures began done) in
    let to : c.others-to.result ≡ others began began.pool.view = c.others-to.ensures ∙ others-are began began.pool.view c.view.result.now
    st.own.me (begin.number ∙ is.place.number) (begin.view ∙ ap (λ (h : Pool). h.view) is.place.pool ∙ sym c.view.ensures) in
    let made = c.in_ok-resend.ensures.bundle began done.places ∙ ap (λ fs. fs ++ frames_of (Bundle cs)) c.requires.empty.frames in
    let each = ap (each_to c.others-to.result) made ∙ bundle-to cs c.others-to.result (c.is_nobody.ensures.somebody c.if-is_nobody.false) ∙
    (λ i. flat_map frames_to (unless_empty (same i) Bundle (to i))) in
    on_ok_weaker c.hand_over.result (λ handed. handed ∙ ap (λ es. map frame_to c.args.sends.now.items ++ es) each) c.hand_over.ensures.sends

pub returns-then-is_silent-clause-sent : goal.returns-then-is_silent-clause-sent
returns-then-is_silent-clause-sent c = λ s began p begin is.
    sym (append-nil (map frame_to c.args.sends.now.items))
    ∙ ap (λ es. map frame_to c.args.sends.now.items ++ es)
    (sym (bundle-silent c.args.tick c.args.newly began p (others began began.pool.view)
    (subst (λ b. OnTrue b (c.args.tick ≡ false)) c.if-is_silent.true c.is_silent.ensures.once)
    (subst (λ b. OnTrue b (c.args.newly ≡ 0)) c.if-is_silent.true c.is_silent.ensures.none) begin))

pub returns-in_err-base_places-clause-alone : goal.returns-in_err-base_places-clause-alone
returns-in_err-base_places-clause-alone c = λ s began p begin is e.
    let to : c.others-to.result ≡ others began began.pool.view = c.others-to.ensures ∙ others-are began began.pool.view c.view.result.now
    c.args.state.now.own.me (begin.number ∙ is.place.number) (begin.view ∙ ap (λ (h : Pool). h.view) is.place.pool ∙ sym c.view.ensures) in
    absurd (c.is_nobody.ensures.somebody c.if-is_nobody.false (to ∙ e))

pub returns-in_err-resend-clause-alone : goal.returns-in_err-resend-clause-alone
returns-in_err-resend-clause-alone c = λ s began p begin is e.
    let to : c.others-to.result ≡ others began began.pool.view = c.others-to.ensures ∙ others-are began began.pool.view c.view.result.now
    c.args.state.now.own.me (begin.number ∙ is.place.number) (begin.view ∙ ap (λ (h : Pool). h.view) is.place.pool ∙ sym c.view.ensures) in
    absurd (c.is_nobody.ensures.somebody c.if-is_nobody.false (to ∙ e))

pub returns-clause-alone : goal.returns-clause-alone
returns-clause-alone c = λ s began p begin is e.
    let to : c.others-to.result ≡ others began began.pool.view = c.others-to.ensures ∙ others-are began began.pool.view c.view.result.now
    c.args.state.now.own.me (begin.number ∙ is.place.number) (begin.view ∙ ap (λ (h : Pool). h.view) is.place.pool ∙ sym c.view.ensures) in
    absurd (c.is_nobody.ensures.somebody c.if-is_nobody.false (to ∙ e))
