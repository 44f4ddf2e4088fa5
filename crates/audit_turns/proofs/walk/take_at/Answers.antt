use Rattle.journal_entries.specs.Views.{entry as entry_of}
use Rattle.audit_turns.proofs.Walking.{takes-at}
use Rattle.audit_turns.proofs.walk.take_at.Goals as goal

pub returns : goal.returns
returns g c = λ s shares.
    takes-at s c.args.at c.args.journal (entry_of c.args.entry.now) c.args.players.now.items c.index_mut-player.result.now c.take.new.self
    c.args.all.now c.take.new.all c.take.result c.requires c.index_mut-player.ensures.value
    (λ d claims own is saw. c.take.ensures.taken s d claims own is shares saw)
    (λ d claims own is saw named yes'. c.take.ensures.only s d claims own is shares saw named yes')
