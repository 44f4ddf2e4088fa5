use Rattle.std.proofs.Common.{◌≡◌, ℕ, ◌*◌, ◌<◌, [], slice_index_or}
use Rattle.sha2.specs.Sha256.{digest_bytes}
use Rattle.lms_chains.specs.Walks.{end_of}
use Rattle.lms_chains.proofs.walks.walk_in_order.Given as goal

abbrev pub invariant-groups : goal.invariant-groups
invariant-groups l = (i : ℕ) → i < 4 * l.group → i < l.fn.count
    → slice_index_or l.ends i [] ≡ end_of (digest_bytes l.words 5) l.fn.steps.from l.fn.steps.to l.fn.starts i
