-- What a state shows of whichever process has it.
use Rattle.std.proofs.Common.{◌≡◌, length, sym, ap, ◌∙◌}
use Rattle.std.proofs.lemmas.List.{length-map}
use Rattle.std.proofs.Math.Logic.{∥∥₁_elim}
use Rattle.std.proofs.Props.{props}
use Rattle.group_defs.specs.Process.{Pool, delivered_from}
use Rattle.member_state.specs.declared.state.ProcessState.{ProcessState}
use Rattle.member_state.specs.States.{IsReal}

-- it counts what was delivered of each member of its view
pub counts-each : (st : ProcessState) → IsReal st → length st.own.counts.items ≡ length st.pool.pool.view.members
counts-each st real = ∥∥₁_elim real (hlevel props) (λ has.
    sym (ap length has.state.place.delivered.counts) ∙ length-map has.process.pool.view.members
    (λ m. delivered_from m has.process.delivered) ∙ ap (λ (h : Pool). length h.view.members) has.state.place.pool)
