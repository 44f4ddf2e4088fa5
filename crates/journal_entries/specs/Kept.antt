-- The entry that bytes are kept of.
use Rattle.std.specs.Prelude.{[], false, Ok, Err}
use Rattle.journal_defs.specs.Entries.{Entry, Tick, Reading, entry_of}
use Rattle.journal_entries.specs.declared.entry_bytes.EntryBytes.{EntryBytes}

-- what was read, or a tick of process 0
abbrev pub entry_or_tick : Reading Entry → Entry
entry_or_tick (Ok e) = e
entry_or_tick (Err fault) = record { process = 0; event = Tick; spent = false; signatures = [] }

abbrev pub kept : EntryBytes → Entry
kept e = entry_or_tick (entry_of e.bytes.items)
