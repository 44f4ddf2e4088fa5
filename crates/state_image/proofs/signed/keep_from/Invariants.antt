use Rattle.std.proofs.Common.{◌≡◌, ◌++◌, drop}
use Rattle.std.specs.List.{AllByRecursion}
use Rattle.message_defs.specs.Spelling.{IsClaim}
use Rattle.state_image.proofs.signed.keep_from.Given as goal

abbrev pub invariant-claims : goal.invariant-claims
invariant-claims l =
    AllByRecursion IsClaim (drop l.place l.list.claims)
    × (l.kept.items ++ drop l.place l.list.claims ≡ l.fn.kept.items ++ drop l.from l.list.claims)
