use Rattle.std.proofs.Common.{◌≡◌, ◌++◌, ◌∷◌, codes, map, take}
use Rattle.std.specs.List.{join_with_byte}
use Rattle.std.specs.Fmt.{decimal}
use Rattle.text_defs.specs.Words.{space}
use Rattle.kit_file.proofs.writing.push_genesis.Given as goal

abbrev pub invariant-loop-member : goal.invariant-loop-member
invariant-loop-member l = l.out.items ≡ l.fn.out.items
    ++ join_with_byte space (codes "genesis" ∷ map decimal (take l.member-index l.members))
