use Rattle.std.proofs.Common.{◌≡◌, ◌≤◌, ◌*◌, ◌-◌}
use Rattle.signature_defs.specs.Strings.{coef, sums}
use Rattle.signature_defs.specs.LmOts.{ots_steps, ots_width}
use Rattle.lms_ots.proofs.digits.checksum.Given as goal

abbrev pub invariant-loop-i : goal.invariant-loop-i
invariant-loop-i l = record {
  so_far : l.sum ≡ sums (λ i. ots_steps l.fn.kind - coef l.fn.hash i (ots_width l.fn.kind)) l.i;
  bound : l.sum ≤ l.i * ots_steps l.fn.kind;
}
