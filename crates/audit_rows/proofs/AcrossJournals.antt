-- The row of specs/AcrossJournals.antt, computed.
use Rattle.std.proofs.Common.{refl}
use Rattle.audit_rows.proofs.Opened.{all_opened}
use Rattle.audit_rows.specs.AcrossJournals.{sources, AcrossJournals}

pub across_journals : AcrossJournals
unfolding all_opened sources
across_journals = refl
