use Rattle.own_place.proofs.Batches.{SoFar}
use Rattle.own_place.proofs.noting.count_batch.Given as goal

abbrev pub invariant-messages : goal.invariant-messages
invariant-messages l = SoFar l.view l.message-items l.fn.counts l.counts l.message-index
