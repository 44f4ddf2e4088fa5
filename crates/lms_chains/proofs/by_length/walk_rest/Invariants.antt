use Rattle.std.proofs.Common.{◌≡◌, ℕ, ◌<◌, [], slice_index_or}
use Rattle.sha2.specs.Sha256.{digest_bytes}
use Rattle.lms_chains.specs.Walks.{AreDone, end_of}
use Rattle.lms_chains.proofs.by_length.walk_rest.Given as goal

abbrev pub invariant-rest : goal.invariant-rest
invariant-rest l = record {
  sound : AreDone (digest_bytes l.key 5) l.fn.steps.from l.fn.steps.to l.fn.starts l.walked.ends l.walked.done;
  before : (k : ℕ) → k < l.i
      → slice_index_or l.walked.ends k [] ≡ end_of (digest_bytes l.key 5) l.fn.steps.from l.fn.steps.to l.fn.starts k;
}
