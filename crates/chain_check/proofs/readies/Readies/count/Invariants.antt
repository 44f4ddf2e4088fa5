use Rattle.std.proofs.Common.{◌≡◌, ◌≤◌, length, take}
use Rattle.std.specs.Prelude.{filter}
use Rattle.message_defs.specs.Statements as plain
use Rattle.group_defs.specs.Process.{Pool}
use Rattle.group_defs.specs.Certified.{says}
use Rattle.rp_base.specs.Views.{value as value_of}
use Rattle.chain_check.specs.Readies.{IsTable}
use Rattle.chain_check.proofs.readies.Readies.count.Given as goal

abbrev pub invariant-loop-place : goal.invariant-loop-place
invariant-loop-place l =
    ((h : Pool) → h.view ≡ l.view → IsTable h l.self.cells
    → l.count ≡ length (filter (says h (plain.Ready h.view.number l.rank (value_of l.value))) (take l.place h.view.members)))
    × (l.count ≤ l.place)
