use Rattle.std.proofs.Common.{◌≡◌, ◌≤◌, List}
use Rattle.message_defs.specs.Statements as plain
use Rattle.group_defs.specs.Process.{Setting, keyed}
use Rattle.chain_defs.specs.Advance.{counted}
use Rattle.chain_check.specs.Readies.{IsTable}
use Rattle.chain_check.proofs.Least.{Below}
use Rattle.chain_check.proofs.shown.shown.Given as goal

abbrev pub invariant-loop-rank : goal.invariant-loop-rank
invariant-loop-rank l =
    ((s : Setting) (cs : List plain.Claim) → l.keyed ≡ keyed s → IsTable (counted s l.view cs) l.readies.cells
    → Below s (counted s l.view cs) l.rank l.most)
    × (l.most ≤ 16)
