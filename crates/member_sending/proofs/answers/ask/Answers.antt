use Rattle.std.proofs.Common.{◌≡◌, ◌++◌, map, sym, ap, ◌∙◌}
use Rattle.std.specs.Prelude.{flat_map}
use Rattle.std.proofs.lemmas.List.{append-nil}
use Rattle.std.proofs.lemmas.Result.{on_ok_weaker}
use Rattle.group_defs.specs.Views as views
use Rattle.group_defs.specs.Process.{Pool, places_in}
use Rattle.group_defs.specs.Sending.{Want, frames_of, others, sends_to}
use Rattle.member_taking.specs.States.{frame_to, frames_to}
use Rattle.member_sending.specs.Sends.{each_to}
use Rattle.member_sending.proofs.Parcels.{want-to, sends-none}
use Rattle.member_sending.proofs.Own.{others-are}
use Rattle.member_sending.proofs.answers.ask.Goals as goal

pub returns-then-is_nobody-clause-sent : goal.returns-then-is_nobody-clause-sent
returns-then-is_nobody-clause-sent c = λ s q is.
    let st = c.args.state.now in
    let to : c.others-to.result ≡ others q q.pool.view = c.others-to.ensures ∙ others-are q q.pool.view c.view-view.result.now st.own.me
    is.place.number (ap (λ (h : Pool). h.view) is.place.pool ∙ sym c.view-view.ensures) in
    sym (append-nil (map frame_to c.args.sends.now.items))
    ∙ ap (λ ts. map frame_to c.args.sends.now.items ++ flat_map frames_to (sends_to ts (Want q.pool.view.number (places_in q.delivered))))
    (sym (sym to ∙ c.is_nobody.ensures.nobody c.if-is_nobody.true))

pub returns-clause-sent : goal.returns-clause-sent
returns-clause-sent c = λ s q is.
    let st = c.args.state.now in
    let to : c.others-to.result ≡ others q q.pool.view = c.others-to.ensures ∙ others-are q q.pool.view c.view-view.result.now st.own.me
    is.place.number (ap (λ (h : Pool). h.view) is.place.pool ∙ sym c.view-view.ensures) in
    let number : c.number.result ≡ q.pool.view.number = c.number.ensures.value ∙ ap (λ (v : views.View). v.number) c.view-view.ensures ∙ sym
    (ap (λ (h : Pool). h.view.number) is.place.pool) in
    let made = c.in_ok-want.ensures.frames ∙ ap (λ fs. fs ++ frames_of (Want c.number.result st.own.delivered)) c.requires.frames in
    let each = ap (each_to c.others-to.result) made ∙ want-to c.number.result st.own.delivered c.others-to.result
    (c.is_nobody.ensures.somebody c.if-is_nobody.false)
    ∙ (λ i. flat_map frames_to (sends_to (to i) (Want (number i) (sym is.place.delivered.places i)))) in
    on_ok_weaker c.hand_over.result (λ handed. handed ∙ ap (λ es. map frame_to c.args.sends.now.items ++ es) each) c.hand_over.ensures.sends

pub returns-in_err-want-clause-none : goal.returns-in_err-want-clause-none
returns-in_err-want-clause-none c = λ s q is e.
    let st = c.args.state.now in
    let to : c.others-to.result ≡ others q q.pool.view = c.others-to.ensures ∙ others-are q q.pool.view c.view-view.result.now st.own.me
    is.place.number (ap (λ (h : Pool). h.view) is.place.pool ∙ sym c.view-view.ensures) in
    absurd (c.is_nobody.ensures.somebody c.if-is_nobody.false
    (to ∙ sends-none (others q q.pool.view) (Want q.pool.view.number (places_in q.delivered)) e))

pub returns-clause-none : goal.returns-clause-none
returns-clause-none c = λ s q is e.
    let st = c.args.state.now in
    let to : c.others-to.result ≡ others q q.pool.view = c.others-to.ensures ∙ others-are q q.pool.view c.view-view.result.now st.own.me
    is.place.number (ap (λ (h : Pool). h.view) is.place.pool ∙ sym c.view-view.ensures) in
    absurd (c.is_nobody.ensures.somebody c.if-is_nobody.false
    (to ∙ sends-none (others q q.pool.view) (Want q.pool.view.number (places_in q.delivered)) e))
