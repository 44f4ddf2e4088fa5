use Rattle.std.proofs.Common.{sym, ap, ◌∙◌}
use Rattle.byte_defs.specs.Members.{has}
use Rattle.group_defs.specs.Accounts.{Account}
use Rattle.replay_report.proofs.reporting.push_player.Goals as goal

pub returns : goal.returns
returns c = λ s d plays.
    let so = c.report_of-report.ensures s d plays in
    c.push_block.ensures c.args.spent.now d.now
    (ap (λ (a : Account). has c.args.spent.now a.me) so.account ∙ sym c.contains-is_spent.ensures.value) so
