-- The signatures that are left of an entry.
use Rattle.std.specs.Prelude.{ℕ, List}
use Rattle.std.specs.Borrow.{Bor}
use Rattle.message_defs.specs.Entries.{all_kept_at}
use Rattle.member_events.specs.Finds.{items_of}
use Rattle.member_events.specs.declared.entry.EntrySignatures.{EntrySignatures}

abbrev pub signatures_left : EntrySignatures → List (List ℕ)
signatures_left s = items_of (all_kept_at s.left s.bytes.now)

-- the signatures, and the bytes after them
abbrev pub kept_of : EntrySignatures × Bor (List ℕ) → List (List ℕ) × List ℕ
kept_of x = (signatures_left x.0, x.1.now)
