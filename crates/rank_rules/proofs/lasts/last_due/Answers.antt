use Rattle.std.proofs.Common.{◌∙◌, Some, ap, sym, true, false}
use Rattle.message_defs.specs.Statements.{Last}
use Rattle.stmt_codec.specs.Views.{report}
use Rattle.rank_rules.proofs.Ranking.{last-is}
use Rattle.rank_rules.proofs.lasts.last_due.Goals as goal

pub returns-then-is_open : goal.returns-then-is_open
returns-then-is_open c pool s p tells =
    last-is s p c.args.pool.now.pool c.args.own.now tells true c.if-is_open.ensures
    ∙ ap (λ r. Some (Last c.args.pool.now.pool.view.number r (report c.args.own.now.ready))) (sym c.removed_rank-rank.ensures)

pub returns-else-is_open : goal.returns-else-is_open
returns-else-is_open c pool s p tells = last-is s p c.args.pool.now.pool c.args.own.now tells false c.if-is_open.ensures
