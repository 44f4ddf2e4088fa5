use Rattle.std.proofs.Common.{◌≡◌, ◌≤◌, ◌∙◌, ℕ, length-set, arith}
use Rattle.signature_defs.specs.Strings.{coef}
use Rattle.signature_defs.specs.LmOts.{ots_steps, ots_width}
use Rattle.lms_ots.proofs.Filled.{filled}
use Rattle.lms_ots.proofs.digits.Digits.all.Goals as goal

pub digits-preserved : goal.digits-preserved
digits-preserved c = record {
  whole = simp length-set c.digits.invariant.whole;
  value = filled (λ (k x : ℕ). x ≡ coef c.args.self.now.bytes k (ots_width c.args.kind)) 0 c.digits.all c.digits.i _ _
      (omega arith) (omega arith) (c.from.ensures ∙ c.at.ensures.value) c.digits.invariant.value;
  bound = filled (λ (k x : ℕ). x ≤ ots_steps c.args.kind) 0 c.digits.all c.digits.i _ _
      (omega arith) (omega arith) (rw c.from.ensures c.at.ensures.bound) c.digits.invariant.bound;
}
