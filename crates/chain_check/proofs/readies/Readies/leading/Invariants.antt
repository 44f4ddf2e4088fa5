use Rattle.std.proofs.Common.{◌≡◌, ◌≤◌}
use Rattle.std.specs.Prelude.{IfSome}
use Rattle.group_defs.specs.Process.{Pool}
use Rattle.chain_check.specs.Readies.{IsTable, IsBest}
use Rattle.chain_check.proofs.Counts.{NoneMore}
use Rattle.chain_check.proofs.readies.Readies.leading.Given as goal

abbrev pub invariant-loop-place : goal.invariant-loop-place
invariant-loop-place l =
    ((h : Pool) → h.view ≡ l.view → IsTable h l.self.cells → IsBest h l.rank l.best l.most × NoneMore h l.rank l.place l.most)
    × (l.most ≤ 16)
    × IfSome l.best (λ b. b.count ≤ 16)
