use Rattle.std.proofs.Common.{◌∙◌, sym}
use Rattle.rank_rules.proofs.Unheard.{where-false, unchosen}
use Rattle.rank_rules.proofs.suggests.may_choose.Goals as goal

pub returns-else-hears : goal.returns-else-hears
returns-else-hears c = where-false c.has_notified.result _
    (λ e. unchosen c.args.pool.now.pool (sym c.if-hears.ensures) (sym c.has_notified.ensures ∙ e))
