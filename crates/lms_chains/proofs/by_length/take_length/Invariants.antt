use Rattle.std.proofs.Common.{ℕ, ◌<◌, slice_index}
use Rattle.sha2.specs.Sha256.{digest_bytes}
use Rattle.lms_chains.specs.Walks.{AreDone, HasSteps}
use Rattle.lms_chains.proofs.by_length.take_length.Given as goal

abbrev pub invariant-chains : goal.invariant-chains
invariant-chains l = record {
  place : l.group.place < 4;
  at : (k : ℕ) → k < 4 → slice_index l.group.at k < 265;
  steps : (k : ℕ) → k < 4 → HasSteps l.fn.steps.from l.fn.steps.to (slice_index l.group.at k);
  sound : AreDone (digest_bytes l.key 5) l.fn.steps.from l.fn.steps.to l.fn.starts l.walked.ends l.walked.done;
}
