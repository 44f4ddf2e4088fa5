use Rattle.std.proofs.Common.{arith}
use Rattle.guard_service.proofs.Carried.{process-passes}
use Rattle.guard_service.proofs.ranges.process_fits.Goals as goal

pub returns : goal.returns
returns c = process-passes c.args.p (omega arith)
