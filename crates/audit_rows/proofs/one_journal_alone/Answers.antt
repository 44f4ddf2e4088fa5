use Rattle.audit_rows.proofs.OneJournalAlone.{one_journal_alone}
use Rattle.audit_rows.proofs.one_journal_alone.Goals as goal

pub returns : goal.returns
returns c = one_journal_alone
