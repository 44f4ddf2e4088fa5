use Rattle.std.proofs.Common.{◌-◌, sym, arith}
use Rattle.signature_defs.specs.Strings.{coef}
use Rattle.signature_defs.specs.LmOts.{ots_steps, ots_width}
use Rattle.signature_defs.proofs.StringLaws.{sums_none, sums_more}
use Rattle.lms_ots.proofs.digits.checksum.Goals as goal

pub loop-i-init : goal.loop-i-init
loop-i-init c = record { so_far = sym (sums_none _); bound = omega arith }

pub loop-i-preserved : goal.loop-i-preserved
loop-i-preserved c = record {
  so_far = cc (sums_more (λ i. ots_steps c.args.kind - coef c.args.hash.now i (ots_width c.args.kind)) c.loop-i.i);
  bound = omega arith;
}
