use Rattle.std.proofs.Common.{◌≡◌, ◌+◌, ◌*◌, ℕ, List, [], length-set, arith}
use Rattle.signature_defs.specs.Strings.{part}
use Rattle.lms_ots.proofs.Filled.{filled}
use Rattle.lms_ots.proofs.signatures.values_of.Goals as goal

pub values-preserved : goal.values-preserved
values-preserved c = record {
  whole = simp length-set c.values.invariant.whole;
  value = filled (λ (k : ℕ) (value : List ℕ). value ≡ part (36 + 32 * k) 32 c.args.sig.now) [] c.values.values c.values.i _ _
      (omega arith) (omega arith) c.value_at.ensures c.values.invariant.value;
}
