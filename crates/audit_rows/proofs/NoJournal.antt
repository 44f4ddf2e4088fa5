-- The row of specs/NoJournal.antt, computed.
use Rattle.std.proofs.Common.{refl}
use Rattle.audit_rows.proofs.Opened.{all_opened}
use Rattle.audit_rows.specs.NoJournal.{sources, NoJournal}

pub no_journal : NoJournal
unfolding all_opened sources
no_journal = refl
