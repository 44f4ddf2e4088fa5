use Rattle.audit_rows.proofs.AcrossJournals.{across_journals}
use Rattle.audit_rows.proofs.across_journals.Goals as goal

pub returns : goal.returns
returns c = across_journals
