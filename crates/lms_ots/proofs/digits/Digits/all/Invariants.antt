use Rattle.std.proofs.Common.{◌≡◌, ℕ, ◌<◌, ◌≤◌, length, slice_index}
use Rattle.signature_defs.specs.Strings.{coef}
use Rattle.signature_defs.specs.LmOts.{ots_steps, ots_width}
use Rattle.lms_ots.proofs.digits.Digits.all.Given as goal

abbrev pub invariant-digits : goal.invariant-digits
invariant-digits l = record {
  whole : length l.all ≡ 265;
  value : (k : ℕ) → k < l.i → slice_index l.all k ≡ coef l.fn.self.bytes k (ots_width l.fn.kind);
  bound : (k : ℕ) → k < l.i → slice_index l.all k ≤ ots_steps l.fn.kind;
}
