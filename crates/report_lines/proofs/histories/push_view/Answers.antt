use Rattle.report_lines.proofs.Pieces.{view-written}
use Rattle.report_lines.proofs.histories.push_view.Goals as goal

pub returns : goal.returns
returns c =
    view-written c.args.me c.args.view.now c.members.result.now c.args.out.now.items c.push_view_name.new.out.items
    c.push_members.new.out.items c.end_line.new.out.items
    c.members.ensures.value c.in_ok-push_view_name.ensures c.in_ok-push_members.ensures c.in_ok-end_line.ensures
