use Rattle.std.proofs.Common.{arith}
use Rattle.snapshot_rp.proofs.Whole.{found_is_spelled, found_is_writable, spelled_is_found}
use Rattle.snapshot_rp.proofs.reading.read_snapshot.Goals as goal

pub returns-clause-found : goal.returns-clause-found
returns-clause-found c = found_is_spelled c.args.version c.args.bytes.now c.read_placed.result
    (λ i. omega (arith, c.type_inv.bytes i)) c.read_placed.ensures

pub returns-clause-writable : goal.returns-clause-writable
returns-clause-writable c = found_is_writable c.args.version c.args.bytes.now c.read_placed.result
    (found_is_spelled c.args.version c.args.bytes.now c.read_placed.result (λ i. omega (arith, c.type_inv.bytes i)) c.read_placed.ensures)

pub returns-clause-only : goal.returns-clause-only
returns-clause-only c = λ i is same. spelled_is_found c.args.version c.args.bytes.now c.read_placed.result i c.read_placed.ensures is same
