use Rattle.audit_rows.proofs.NoJournal.{no_journal}
use Rattle.audit_rows.proofs.no_journal.Goals as goal

pub returns : goal.returns
returns c = no_journal
