use Rattle.std.proofs.Common.{◌≡◌, take}
use Rattle.std.specs.List.{AllByRecursion, flat_map}
use Rattle.audit_defs.specs.Players.{setting_of}
use Rattle.witness_words.specs.Seen.{CanTravel, conviction_line}
use Rattle.witness_words.proofs.writing.evidence_text.Given as goal

-- the convictions before this one have their lines, and are taken
abbrev pub invariant-convicted : goal.invariant-convicted
invariant-convicted l = record {
  written : l.text.items ≡ flat_map conviction_line (take l.conviction-index l.convicted);
  taken : AllByRecursion (CanTravel (setting_of l.kit)) (take l.conviction-index l.convicted);
}
