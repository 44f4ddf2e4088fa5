use Rattle.std.proofs.Common.{◌≡◌, length}
use Rattle.message_defs.specs.Spelling.{IsBatch}
use Rattle.story_defs.specs.Statements.{batch_at}
use Rattle.story_defs.specs.declared.Expected.TheVariants.{Lie}
use Rattle.story_lines.specs.Cursors.{left}
use Rattle.story_statements.proofs.Batches.{Behind}
use Rattle.story_statements.proofs.parts.batch.Given as goal

abbrev pub invariant-messages : goal.invariant-messages
invariant-messages l = record {
  so_far : Behind l.batch (left l.words) ≡ batch_at Lie (left l.fn.words);
  range : IsBatch l.batch;
}

abbrev pub decreases-messages : goal.decreases-messages
decreases-messages l = length (left l.words)
