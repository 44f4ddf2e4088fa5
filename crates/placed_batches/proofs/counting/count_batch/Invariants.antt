use Rattle.placed_batches.proofs.Counted.{SoFar}
use Rattle.placed_batches.proofs.counting.count_batch.Given as goal

abbrev pub invariant-messages : goal.invariant-messages
invariant-messages l = SoFar l.view l.message-items l.fn.row l.row l.message-index
