use Rattle.store_giving.proofs.Telling.{on-ok}
use Rattle.store_server.proofs.KeyLines.{keys-written}
use Rattle.store_server.proofs.server.push_all.Goals as goal

pub returns-clause-pushed : goal.returns-clause-pushed
returns-clause-pushed c = λ qs are.
    on-ok c.push_state_keys.result (keys-written qs c.args.servers.now c.args.out.now.items c.push_reply_keys.new.out.items
    c.push_state_keys.new.out.items are c.in_ok-push_reply_keys.ensures.pushed) c.push_state_keys.ensures.pushed
