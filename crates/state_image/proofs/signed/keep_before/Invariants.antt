use Rattle.std.proofs.Common.{◌≡◌, ◌++◌, drop}
use Rattle.std.specs.List.{AllByRecursion}
use Rattle.message_defs.specs.Spelling.{IsClaim}
use Rattle.state_image.specs.States.{claims_of}
use Rattle.state_image.proofs.signed.keep_before.Given as goal

abbrev pub invariant-lists : goal.invariant-lists
invariant-lists l =
    AllByRecursion IsClaim (claims_of (drop l.list-index l.lists))
    × (l.kept.items ++ claims_of (drop l.list-index l.lists) ≡ l.fn.kept.items ++ claims_of l.lists)
