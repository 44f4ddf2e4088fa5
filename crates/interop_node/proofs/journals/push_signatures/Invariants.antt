use Rattle.std.proofs.Common.{◌≡◌, ◌++◌, length}
use Rattle.std.specs.List.{flat_map}
use Rattle.member_events.specs.Kept.{signatures_left}
use Rattle.interop_node.specs.Journals.{signature_words}
use Rattle.interop_node.proofs.journals.push_signatures.Given as goal

-- with those that are left, all are told
abbrev pub invariant-signatures : goal.invariant-signatures
invariant-signatures l = l.out.items ++ flat_map signature_words (signatures_left l.left) ≡ l.fn.out.items
    ++ flat_map signature_words (signatures_left l.fn.signatures)

abbrev pub decreases-signatures : goal.decreases-signatures
decreases-signatures l = length (signatures_left l.left)
