use Rattle.std.proofs.Common.{◌≡◌, ℕ, ◌+◌, ◌^◌, ◌<◌, ◌≤◌, [], get_or}
use Rattle.signature_defs.specs.Lms.{node}
use Rattle.lms_tree.proofs.fill.put_leaves.Given as goal

abbrev pub invariant-loop-q : goal.invariant-loop-q
invariant-loop-q l = (r : ℕ) → 2 ^ l.fn.height ≤ r → r < 2 ^ l.fn.height + l.q
    → get_or l.nodes r [] ≡ node l.fn.kind l.fn.height l.fn.id l.fn.seed 0 r
