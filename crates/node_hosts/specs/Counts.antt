-- How many entries each process has, as clauses see it.
use Rattle.std.specs.Prelude.{◌≡◌, ◌≤◌, ℕ, slice_index_or}
use Rattle.node_defs.specs.Casts.{Beginning}
use Rattle.node_defs.specs.Nodes.{Node, entries_in}
use Rattle.node_hosts.specs.declared.counts.Counts.{Counts}

-- those of process p
abbrev pub count_in : Counts → ℕ → ℕ
count_in counts p = slice_index_or counts.each p 0

-- So many entries of each process are in the journal of the node, which began so. They are no more than the bytes before its gate.
pub record AreCountsOf (b : Beginning) (n : Node) (counts : Counts) : Type 0 where
  pub each : (p : ℕ) → count_in counts p ≡ entries_in b n p
  pub few : (p : ℕ) → count_in counts p ≤ n.gate
