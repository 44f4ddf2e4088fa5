use Rattle.std.proofs.Common.{◌≡◌, ◌++◌, ◌-◌, ◌<◌, List, length}
use Rattle.std.specs.List.{flat_map}
use Rattle.journal_defs.specs.Entries.{Entry}
use Rattle.journal_defs.specs.Journals.{LieBefore}
use Rattle.interop_node.specs.Journals.{entry_words, header_of}
use Rattle.interop_node.proofs.journals.push_entries.Given as goal

-- the entries before this place were told, and a gate is there
abbrev pub invariant-entries : goal.invariant-entries
invariant-entries l = record {
  reported : (es : List Entry) × LieBefore (header_of l.fn.bytes) l.fn.bytes es l.place
      × (l.out.items ≡ l.fn.out.items ++ flat_map entry_words es);
  within : l.place < length l.fn.bytes;
}

-- what is left of the bytes
abbrev pub decreases-entries : goal.decreases-entries
decreases-entries l = length l.fn.bytes - l.place
