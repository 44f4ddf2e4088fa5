use Rattle.std.proofs.Common.{◌++◌, List, map, ap, ◌∙◌, Vec, Global}
use Rattle.std.specs.List.{flat_map, enumerate_from}
use Rattle.group_defs.specs.Views.{View}
use Rattle.replay_defs.specs.Reports.{view_line, message_lines}
use Rattle.member_events.specs.declared.events.Delivered.{Delivered}
use Rattle.accounts.specs.Views.{delivery}
use Rattle.report_lines.proofs.Reported.{block-written}
use Rattle.report_lines.proofs.processes.push_block.Goals as goal

pub returns : goal.returns
returns c = λ keys_spent p is_spent so.
    let me = c.args.report.now.account.now.me in
    block-written c.args.report.now p so keys_spent c.args.spent is_spent c.args.out.now.items c.push_process.new.out.items
    c.push_views.new.out.items c.push_deliveries.new.out.items
    c.push_liars.new.out.items c.push_spent.new.out.items c.push_halted.new.out.items (c.in_ok-push_process.ensures p so)
    (c.in_ok-push_views.ensures ∙ ap (λ (vs : List View). c.push_process.new.out.items ++ flat_map (view_line me) vs) c.deref.ensures.value)
    (c.in_ok-push_deliveries.ensures
    ∙ ap (λ (dss : List (Vec Delivered Global)). c.push_views.new.out.items
    ++ flat_map (message_lines me) (enumerate_from 0 (map (λ ds. map delivery ds.items) dss))) c.deref-2.ensures.value)
    c.in_ok-push_liars.ensures c.in_ok-push_spent.ensures c.in_ok-push_halted.ensures
