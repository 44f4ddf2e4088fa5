use Rattle.std.proofs.Common.{◌≡◌, ◌++◌, drop}
use Rattle.std.specs.List.{AllByRecursion}
use Rattle.message_defs.specs.Spelling.{IsClaim}
use Rattle.state_image.specs.Commits.{commit_at}
use Rattle.state_image.proofs.left.commit.Given as goal

abbrev pub invariant-claims : goal.invariant-claims
invariant-claims l =
    AllByRecursion IsClaim (drop l.i (commit_at l.archive.commits l.view))
    × (l.kept.items ++ drop l.i (commit_at l.archive.commits l.view) ≡ commit_at l.archive.commits l.view)
