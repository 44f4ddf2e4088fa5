use Rattle.std.proofs.Common.{arith}
use Rattle.schedule_reading.proofs.Spelled.{is_found, is_spelled, is_read}
use Rattle.schedule_reading.proofs.reading.read_schedule.Goals as goal

pub returns-clause-found : goal.returns-clause-found
returns-clause-found c = is_found c.args.bytes.now c.read.result (λ i. omega (arith, c.type_inv.bytes i)) c.read.ensures

pub returns-clause-spelled : goal.returns-clause-spelled
returns-clause-spelled c = is_spelled c.args.bytes.now c.read.result (λ i. omega (arith, c.type_inv.bytes i)) c.read.ensures

pub returns-clause-only : goal.returns-clause-only
returns-clause-only c s fits e = is_read c.args.bytes.now c.read.result s fits e c.read.ensures
