use Rattle.std.proofs.Common.{◌≡◌, ◌++◌, ◌∷◌, [], map, true, false, sym, ap, ◌∙◌}
use Rattle.std.specs.Prelude.{flat_map}
use Rattle.std.proofs.lemmas.List.{append-nil}
use Rattle.std.proofs.lemmas.Result.{on_ok_weaker}
use Rattle.rp_base.specs.Pids.{put_once}
use Rattle.group_defs.specs.Sending as sending
use Rattle.group_defs.specs.Sending.{Proof, frames_of}
use Rattle.member_taking.specs.States.{frame_to, frames_to}
use Rattle.member_sending.specs.Sends.{each_to}
use Rattle.member_sending.proofs.Parcels.{proof-to, proof-none}
use Rattle.member_sending.proofs.Own.{real-ranged, wanted}
use Rattle.member_sending.proofs.answers.answer.Goals as goal

pub answer_want-requires-clause-range : goal.answer_want-requires-clause-range
answer_want-requires-clause-range c = real-ranged c.args.state.now c.requires.real

pub returns-clause-sent : goal.returns-clause-sent
returns-clause-sent c = λ s q is.
    let st = c.args.state.now in
    let from = c.args.from in
    let cs = sending.answer q c.args.view c.args.place in
    let made = c.in_ok-answer_want.ensures.answer q is.kept is.place.pool ∙ ap (λ fs. fs ++ frames_of (Proof cs)) c.requires.empty.frames in
    let to : c.insert.new.self ≡ from ∷ [] = c.insert.ensures ∙ ap (put_once from) c.new-to.ensures in
    let each = (λ i. each_to (to i) (made i)) ∙ proof-to cs from ∙ ap (flat_map frames_to)
    (sym (wanted s q from c.args.view c.args.place st.own.keyed true (is.place.keys from)
    (sym c.contains.ensures ∙ c.if-not-contains.false))) in
    on_ok_weaker c.hand_over.result (λ handed. handed ∙ ap (λ es. map frame_to c.args.sends.now.items ++ es) each) c.hand_over.ensures.sends

pub returns-then-not-contains-clause-sent : goal.returns-then-not-contains-clause-sent
returns-then-not-contains-clause-sent c = λ s q is.
    sym (append-nil (map frame_to c.args.sends.now.items))
    ∙ ap (λ outs. map frame_to c.args.sends.now.items ++ flat_map frames_to outs)
    (sym (wanted s q c.args.from c.args.view c.args.place c.args.state.now.own.keyed false (is.place.keys c.args.from)
    (sym c.contains.ensures ∙ c.if-not-contains.true)))

pub returns-in_err-answer_want-clause-none : goal.returns-in_err-answer_want-clause-none
returns-in_err-answer_want-clause-none c = λ s q is e.
    let out = wanted s q c.args.from c.args.view c.args.place c.args.state.now.own.keyed true (is.place.keys c.args.from)
    (sym c.contains.ensures ∙ c.if-not-contains.false) in
    absurd (cc (c.in_err-answer_want.ensures.none q is.kept is.place.pool
    (proof-none (sending.answer q c.args.view c.args.place) c.args.from (sym out ∙ e))))

pub returns-clause-none : goal.returns-clause-none
returns-clause-none c = λ s q is e.
    let out = wanted s q c.args.from c.args.view c.args.place c.args.state.now.own.keyed true (is.place.keys c.args.from)
    (sym c.contains.ensures ∙ c.if-not-contains.false) in
    let none = proof-none (sending.answer q c.args.view c.args.place) c.args.from (sym out ∙ e) in
    let made = c.in_ok-answer_want.ensures.answer q is.kept is.place.pool
    ∙ ap (λ fs. fs ++ frames_of (Proof (sending.answer q c.args.view c.args.place))) c.requires.empty.frames in
    c.hand_over.ensures.none (made ∙ ap (λ cs. frames_of (Proof cs)) none)
