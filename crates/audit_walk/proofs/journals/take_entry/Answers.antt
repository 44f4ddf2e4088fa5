use Rattle.std.proofs.Common.{Err, ap}
use Rattle.journal_entries.specs.Views.{entry as entry_of}
use Rattle.audit_walk.proofs.Going.{entry-refused, entry-taken}
use Rattle.audit_walk.proofs.journals.take_entry.Goals as goal

pub returns-in-Ok-clause-goes : goal.returns-in-Ok-clause-goes
returns-in-Ok-clause-goes g c = λ s end left shares way.
    entry-taken s end left c.args.walk.now c.take.new.self c.args.journal c.args.place (entry_of c.args.entry.now) way
    (c.in-Ok.ensures.taken s way.known way.own way.walk shares)

pub returns-in-Err-Differs-clause-refused : goal.returns-in-Err-Differs-clause-refused
returns-in-Err-Differs-clause-refused g c = λ s end left shares way.
    entry-refused s end left c.args.walk.now c.take.new.self c.args.journal c.args.place (entry_of c.args.entry.now) way
    (c.in-Err-Differs.ensures.refused s way.known way.own way.walk shares (ap (λ f. Err f) c.in-Err-Differs.field-0-is))
