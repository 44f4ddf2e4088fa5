-- The row of specs/OneJournalAlone.antt, computed.
use Rattle.std.proofs.Common.{refl}
use Rattle.audit_rows.proofs.Opened.{all_opened}
use Rattle.audit_rows.specs.OneJournalAlone.{sources, OneJournalAlone}

pub one_journal_alone : OneJournalAlone
unfolding all_opened sources
one_journal_alone = refl
