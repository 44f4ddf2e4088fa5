use Rattle.statements.specs.Batches.{same_batch}
use Rattle.statements.proofs.Batching.{same_pairs}
use Rattle.statements.proofs.batch.BatchPartialEq.eq.Goals as goal

pub returns : goal.returns
unfolding same_batch
returns c = rw (← c.messages.ensures.list, ← c.messages-2.ensures.list, c.eq.ensures)
    (same_pairs c.messages.result.now c.messages-2.result.now)
