use Rattle.std.proofs.Common.{arith}
use Rattle.journal_entries.specs.Views.{entry}
use Rattle.journal_entries.proofs.AtGates.{record_is_there, record_is_shorter}
use Rattle.journal_entries.proofs.gates.record_behind.Goals as goal

pub returns-clause-spelled : goal.returns-clause-spelled
returns-clause-spelled c = record_is_there (λ x. (entry x.0, x.1.now)) c.record_in.result c.args.behind.now
    (λ i. omega (arith, c.type_inv.behind i)) c.record_in.ensures

pub returns-clause-shorter : goal.returns-clause-shorter
returns-clause-shorter c = record_is_shorter (λ x. (entry x.0, x.1.now)) c.record_in.result c.args.behind.now
    (λ i. omega (arith, c.type_inv.behind i)) c.record_in.ensures
