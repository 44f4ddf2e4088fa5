use Rattle.std.proofs.Common.{drop}
use Rattle.member_settling.specs.Reported.{HasMore}
use Rattle.member_settling.proofs.Putting.{ArePutting}
use Rattle.member_settling.proofs.delivering.put_messages.Given as goal

abbrev pub invariant-messages : goal.invariant-messages
invariant-messages l = ArePutting l.pool.pool l.place l.messages
    (drop l.message-index l.messages) l.fn.delivered.items l.delivered.items l.fn.notes.items l.notes.items
    × HasMore l.fn.delivered.items l.delivered.items
