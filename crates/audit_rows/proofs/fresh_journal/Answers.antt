use Rattle.audit_rows.proofs.FreshJournal.{fresh_journal}
use Rattle.audit_rows.proofs.fresh_journal.Goals as goal

pub returns : goal.returns
returns c = fresh_journal
