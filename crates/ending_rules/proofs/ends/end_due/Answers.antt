use Rattle.std.proofs.Common.{◌∙◌, Some, ap, sym, true, false}
use Rattle.message_defs.specs.Statements.{End}
use Rattle.ending_rules.proofs.Telling.{end-is}
use Rattle.ending_rules.proofs.ends.end_due.Goals as goal

pub returns-then-may_end : goal.returns-then-may_end
returns-then-may_end c pool s p tells =
    end-is s p c.args.pool.now.pool c.args.own.now tells true (c.if-may_end.ensures pool)
    ∙ ap (λ n. Some (End c.args.pool.now.pool.view.number n)) (sym c.placed_len.ensures)

pub returns-else-may_end : goal.returns-else-may_end
returns-else-may_end c pool s p tells = end-is s p c.args.pool.now.pool c.args.own.now tells false (c.if-may_end.ensures pool)
