use Rattle.std.proofs.Common.{◌≡◌, drop}
use Rattle.restored_past.specs.Keeping.{are_kept_at}
use Rattle.restored_past.proofs.last.are_kept.Given as goal

abbrev pub invariant-loop-kept : goal.invariant-loop-kept
invariant-loop-kept l = (are_kept_at l.archive.commits l.view l.i (drop l.kept-index l.claims) ≡ are_kept_at l.archive.commits l.view 0 l.claims)
    × (l.i ≡ l.kept-index)
