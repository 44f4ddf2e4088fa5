use Rattle.audit_laws.proofs.OfEntries.{family_is_of_entries}
use Rattle.audit_laws.proofs.family_is_of_entries.Goals as goal

pub returns : goal.returns
returns c = family_is_of_entries
