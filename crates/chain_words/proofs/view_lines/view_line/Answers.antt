use Rattle.chain_words.proofs.Written.{view-written}
use Rattle.chain_words.proofs.view_lines.view_line.Goals as goal

pub returns : goal.returns
returns c =
    view-written c.args.view.now c.members.result.now c.in_ok-text.text.items
    c.push_members.new.out.items c.push.new.self.items
    c.members.ensures.value c.in_ok-text.ensures c.in_ok-push_members.ensures c.in_ok-push.ensures.items
