-- The row of specs/FreshJournal.antt, computed.
use Rattle.std.proofs.Common.{refl}
use Rattle.audit_rows.proofs.Opened.{all_opened}
use Rattle.audit_rows.specs.FreshJournal.{sources, FreshJournal}

pub fresh_journal : FreshJournal
unfolding all_opened sources
fresh_journal = refl
