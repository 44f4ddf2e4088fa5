use Rattle.std.proofs.Common.{◌∙◌, ap, sym}
use Rattle.message_defs.specs.Updates.{Remove}
use Rattle.guard_service.proofs.Seeking.{expellable-is}
use Rattle.guard_service.proofs.evidence.may_expel.Goals as goal

pub returns : goal.returns
returns c = λ k p now is.
    let st = c.state-state.ensures.state k.setting now (rw (← c.core.ensures) at is.core) in
    c.is_expellable.ensures
    ∙ expellable-is now c.args.q c.state-state.result.now.own.me c.view.result.now c.contains-perceived.result st.place.number
    (ap (λ h. h.view) st.place.pool ∙ sym c.view.ensures) (st.asked (Remove c.args.q) ∙ sym c.contains-perceived.ensures)
