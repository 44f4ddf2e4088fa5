use Rattle.std.proofs.Common.{arith}
use Rattle.journal_entries.specs.Views.{entry}
use Rattle.journal_entries.proofs.AtGates.{found_is_spelled, spelled_is_found}
use Rattle.journal_entries.proofs.reading.read_entry.Goals as goal

pub returns-clause-found : goal.returns-clause-found
returns-clause-found c = found_is_spelled entry c.entry_in.result c.args.bytes.now
    (λ i. omega (arith, c.type_inv.bytes i)) c.entry_in.ensures

pub returns-clause-only : goal.returns-clause-only
returns-clause-only c = λ e is spelled. spelled_is_found entry c.entry_in.result c.args.bytes.now e c.entry_in.ensures is spelled
