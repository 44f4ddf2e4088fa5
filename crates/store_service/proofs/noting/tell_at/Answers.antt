use Rattle.store_service.proofs.Reported.{reported-at}
use Rattle.store_service.proofs.noting.tell_at.Goals as goal

pub returns : goal.returns
returns c = λ p xs is are.
    reported-at p c.args.note.now xs c.args.servers.now.items are c.args.at c.index_mut-server.result.now c.note.new.self
    c.new-text.result.items c.note.new.out.items is c.requires c.index_mut-server.ensures.value c.new-text.ensures.items
    (λ q s so. c.in_ok-note.ensures.after q s so) (λ q s so. c.in_ok-note.ensures.reported q s so)
