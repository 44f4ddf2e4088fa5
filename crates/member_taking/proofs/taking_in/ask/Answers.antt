use Rattle.std.proofs.Common.{◌≡◌, ◌∙◌, None, Some, sym, ap}
use Rattle.std.proofs.lemmas.Result.{on_ok_weaker}
use Rattle.std.proofs.Math.Logic.{∥∥₁_elim}
use Rattle.std.proofs.Props.{props}
use Rattle.byte_defs.specs.Orders.{put}
use Rattle.group_defs.specs.Process.{Pool}
use Rattle.group_defs.specs.Events.{perceived_numbers}
use Rattle.rp_base.specs.Views.{update as update_of}
use Rattle.member_state.specs.Parts.{fault as fault_of}
use Rattle.accounts.specs.Views.{account as account_of}
use Rattle.member_taking.proofs.States.{may-ask, perceives-now}
use Rattle.member_taking.proofs.taking_in.ask.Goals as goal

pub unreachable-requires : goal.unreachable-requires
unreachable-requires c =
    ∥∥₁_elim c.requires.real (hlevel props) (λ real.
    let admitted = c.requires.admitted real.setting real.process real.state in
    let may = may-ask real.setting real.process (update_of c.args.update.now) admitted in
    let exactly = c.in_default.ensures.exactly real.setting real.process real.state.place.keys
    (ap (λ (h : Pool). h.view) real.state.place.pool ∙ sym c.view-view.ensures) may.1 may.0 in
    let clash : Some (fault_of c.in_default.field-0) ≡ None = sym exactly ∙ admitted in
    cc)

pub returns-clause-asked : goal.returns-clause-asked
returns-clause-asked c s p is =
    on_ok_weaker c.tell_perceived.result
    (λ now. perceives-now s p c.args.state.now is (update_of c.args.update.now) c.in_range.ensures
    (sym c.contains.ensures ∙ c.if-contains.false) c.perceive.new.set (c.in-Ok.ensures.taken p is.asked) c.tell_perceived.new.account
    (now ∙ ap (λ x. record (account_of c.args.state.now.account) {
      perceived = put perceived_numbers (x, update_of c.args.update.now)
          (account_of c.args.state.now.account).perceived;
    }) (c.number.ensures.value ∙ ap (λ v. v.number) c.view.ensures)))
    c.tell_perceived.ensures.reported
