use Rattle.std.proofs.Common.{◌≡◌, ◌∙◌, Some, None, sym, ap, subst}
use Rattle.std.specs.Option.{option_map}
use Rattle.group_defs.specs.Process.{Pool}
use Rattle.rp_base.specs.Views.{update}
use Rattle.slot_quorums.specs.Claims.{with_heard}
use Rattle.pool_values.specs.Updates.{AreNotified, notified_said}
use Rattle.pool_values.proofs.Notified.{none-more, this-more}
use Rattle.pool_values.proofs.places.note_update.Goals as goal

pub returns-in-Some : goal.returns-in-Some
returns-in-Some c h d grown said fresh are =
    let reported : notified_said (with_heard h d) d.statement
    ≡ Some (update c.in-Some.update) = (λ i. notified_said (sym grown i) (said i)) ∙ sym c.in-Some.ensures in
    subst (λ (g : Pool). AreNotified g c.insert.new.self) (sym grown)
    (this-more h d fresh c.args.notified.now c.insert.new.self are
    (update c.in-Some.update) reported c.insert.ensures.there c.insert.ensures.others)

pub returns-in_default : goal.returns-in_default
returns-in_default c h d grown said fresh are =
    let none : notified_said (with_heard h d) d.statement
    ≡ None = (λ i. notified_said (sym grown i) (said i)) ∙ sym c.notified_by.ensures ∙ ap (option_map update) c.in_default.is in
    subst (λ (g : Pool). AreNotified g c.args.notified.now) (sym grown) (none-more h d fresh c.args.notified.now are none)
