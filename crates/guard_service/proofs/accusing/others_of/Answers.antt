use Rattle.std.proofs.Common.{◌∙◌, [], ◌∷◌, ap, map, sym, List, ℕ}
use Rattle.std.specs.Prelude.{◌&&◌, ◌==◌, filter, not}
use Rattle.byte_defs.specs.Members.{has}
use Rattle.byte_defs.specs.Orders.{sorted}
use Rattle.guard_service.proofs.accusing.others_of.Goals as goal

pub returns : goal.returns
returns c = λ version p now is.
    let st = c.state-state.ensures.state _ now (rw (← c.core.ensures) at is.core) in
    let me = st.place.number in
    let members = ap (λ h. h.view.members) st.place.pool ∙ sym (ap (λ v. v.members) c.view.ensures) in
    let listed = sym (c.processes.ensures.value ∙ ap (λ (keys : List (ℕ × List ℕ)). map (λ k. k.0) keys) c.roster.ensures) in
    c.others_among.ensures ∙ sym (λ i. sorted (λ m. m ∷ []) (filter (λ m. not (m == me i) && has (listed i) m) (members i)))
