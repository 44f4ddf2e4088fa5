use Rattle.std.proofs.Common.{◌≡◌, ◌≢◌, ◌≤◌, ◌∙◌, length, ap, subst, sym}
use Rattle.std.specs.Prelude.{◌↔◌, IsTrue}
use Rattle.message_defs.specs.Statements.{Ready, ReadyAt, slot_of}
use Rattle.group_defs.specs.Views.{View, IsView}
use Rattle.group_defs.specs.Process.{Pool}
use Rattle.group_defs.specs.Certified.{certified_on}
use Rattle.rp_base.specs.Views.{value}
use Rattle.member_events.specs.Below.{stmt}
use Rattle.heard_images.proofs.Ranks.{found-ready, none-ready}
use Rattle.heard_images.proofs.decided.is_certified.Goals as goal

pub returns-in-Some : goal.returns-in-Some
returns-in-Some c =
    let h : Pool = c.args.pool.now.pool in
    let is : IsView h.view = subst (λ (v : View). IsView v) c.view-current.ensures c.members-members.ensures.within.1 in
    let number : c.number-view.result ≡ h.view.number = c.number-view.ensures.value ∙ ap (λ (v : View). v.number) c.view-current.ensures in
    found-ready h is.some c.args.rank (value c.args.value) (stmt c.in-Some.found)
    (ap (λ x. certified_on h (ReadyAt x c.args.rank)) (sym number) ∙ sym c.in-Some.ensures) c.conflicts.result
    (subst (λ x. IsTrue c.conflicts.result ↔ ((slot_of (stmt c.in-Some.found) ≡ slot_of (Ready x c.args.rank (value c.args.value)))
    × (stmt c.in-Some.found ≢ Ready x c.args.rank (value c.args.value)))) number c.conflicts.ensures)

pub returns-in-None : goal.returns-in-None
returns-in-None c =
    let h : Pool = c.args.pool.now.pool in
    let is : IsView h.view = subst (λ (v : View). IsView v) c.view-current.ensures c.members-members.ensures.within.1 in
    let number : c.number-view.result ≡ h.view.number = c.number-view.ensures.value ∙ ap (λ (v : View). v.number) c.view-current.ensures in
    none-ready h is.some c.args.rank (value c.args.value)
    (ap (λ x. certified_on h (ReadyAt x c.args.rank)) (sym number) ∙ sym c.in-None.ensures)
