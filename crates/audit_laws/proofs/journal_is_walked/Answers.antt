use Rattle.audit_laws.proofs.Walked.{journal_is_walked}
use Rattle.audit_laws.proofs.journal_is_walked.Goals as goal

pub returns : goal.returns
returns c = journal_is_walked
