use Rattle.std.proofs.Common.{◌≡◌, ◌++◌, drop}
use Rattle.std.specs.List.{flat_map}
use Rattle.byte_defs.specs.Fields.{text}
use Rattle.journal_defs.specs.Entries.{AreSignatures}
use Rattle.journal_entries.specs.Views.{signatures_of}
use Rattle.journal_entries.proofs.spelling.push_each.Given as goal

-- with those that are left, all are pushed; and each of these is short enough
abbrev pub invariant-claims : goal.invariant-claims
invariant-claims l = record {
  pushed : l.out.items ++ flat_map text (signatures_of (drop l.claim-index l.claims)) ≡ l.initial.out.items
      ++ flat_map text (signatures_of l.claims);
  short : AreSignatures (signatures_of (drop l.claim-index l.claims));
}
