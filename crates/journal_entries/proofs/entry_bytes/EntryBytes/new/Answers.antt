use Rattle.std.proofs.Common.{◌≡◌, ℕ, List, subst}
use Rattle.journal_defs.specs.Entries.{entry_of, entry_bytes, IsEntry}
use Rattle.journal_entries.specs.Kept.{entry_or_tick}
use Rattle.journal_entries.specs.Views.{entry}
use Rattle.journal_entries.proofs.AtGates.{kept_is_spelled}
use Rattle.journal_entries.proofs.entry_bytes.EntryBytes.new.Goals as goal

pub returns-clause-spelled : goal.returns-clause-spelled
returns-clause-spelled c =
    subst (λ (l : List ℕ). (l ≡ entry_bytes (entry_or_tick (entry_of l))) × IsEntry (entry_or_tick (entry_of l))) c.as_slice.ensures.value
    (kept_is_spelled entry c.read_entry.result c.as_slice.result.now c.read_entry.ensures.exact c.read_entry.ensures.found
    c.if-is_none.ensures)
