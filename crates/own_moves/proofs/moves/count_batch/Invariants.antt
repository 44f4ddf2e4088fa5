use Rattle.own_moves.proofs.Counting.{Counting}
use Rattle.own_moves.proofs.moves.count_batch.Given as goal

abbrev pub invariant-messages : goal.invariant-messages
invariant-messages l = Counting l.view l.message-items l.fn.counts l.counts l.message-index
