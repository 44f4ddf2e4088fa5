use Rattle.node_text.proofs.Written.{view-written}
use Rattle.node_text.proofs.telling.push_view.Goals as goal

pub returns-clause-pushed : goal.returns-clause-pushed
returns-clause-pushed c =
    view-written c.args.me c.args.view c.args.members.now c.args.out.now.items _ c.process_word.result c.into.result c.process_word.ensures
    c.into.ensures c.in_ok-push_line.ensures.pushed
