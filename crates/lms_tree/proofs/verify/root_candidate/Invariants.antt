use Rattle.std.proofs.Common.{◌≡◌, ◌+◌, ◌*◌, ◌/◌, ◌^◌}
use Rattle.signature_defs.specs.Strings.{part}
use Rattle.signature_defs.specs.LmOts.{ots_signature_length}
use Rattle.signature_defs.specs.Lms.{climbed, leaf}
use Rattle.lms_tree.proofs.verify.root_candidate.Given as goal

abbrev pub invariant-loop-i : goal.invariant-loop-i
invariant-loop-i l = record {
  node : l.r ≡ (2 ^ l.fn.height + l.fn.q) / 2 ^ l.i;
  value : l.value ≡ climbed l.fn.id (2 ^ l.fn.height + l.fn.q) (leaf l.fn.id (2 ^ l.fn.height + l.fn.q) l.fn.key)
      (λ i. part (8 + ots_signature_length l.fn.kind + 32 * i) 32 l.fn.sig) l.i;
}
