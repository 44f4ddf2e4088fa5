use Rattle.std.proofs.Common.{sym, subst}
use Rattle.group_defs.specs.Events.{perceives}
use Rattle.rp_base.specs.Views.{update}
use Rattle.ending_rules.specs.declared.notifies.Perceived.{Perceived}
use Rattle.ending_rules.specs.Perceiving.{IsPerceivedOf}
use Rattle.ending_rules.proofs.Asking.{perceives-reported}
use Rattle.ending_rules.proofs.notifies.perceive.Goals as goal

pub returns-in-None-clause-taken : goal.returns-in-None-clause-taken
returns-in-None-clause-taken c p tells =
    subst (λ (set : Perceived). IsPerceivedOf set (perceives p (update c.args.update))) (sym c.insert.ensures)
    (perceives-reported c.args.set.now p (update c.args.update) tells)
