use Rattle.std.proofs.Common.{◌++◌, List, map, ap, ◌∙◌, Vec, Global}
use Rattle.std.specs.List.{flat_map}
use Rattle.replay_defs.specs.Reports.{message_line}
use Rattle.member_events.specs.declared.events.Delivered.{Delivered}
use Rattle.accounts.specs.Views.{delivery}
use Rattle.report_lines.proofs.Pieces.{view-more}
use Rattle.report_lines.proofs.histories.push_deliveries.Goals as goal

pub loop-x-preserved : goal.loop-x-preserved
loop-x-preserved c =
    view-more (λ (ds : Vec Delivered Global). map delivery ds.items) c.args.me c.args.delivered.now c.loop-x.x c.index-delivered-x.result
    c.args.out.now.items c.loop-x.out.items
    c.push_messages.new.out.items c.loop-x-test.true c.index-delivered-x.is c.loop-x.invariant
    (c.in_ok-push_messages.ensures ∙ ap
    (λ (ds : List Delivered). c.loop-x.out.items ++ flat_map (message_line c.args.me c.loop-x.x) (map delivery ds)) c.deref.ensures.value)
