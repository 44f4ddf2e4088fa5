-- What becomes of a node in its script.
use Rattle.std.specs.Prelude.{◌≡◌, ℕ, ◌+◌, List, [], Option, Result, Err}
use Rattle.node_defs.specs.Casts.{Cast}
use Rattle.node_defs.specs.Nodes.{Node, Snapper}
use Rattle.node_traces.specs.Stops.{Outset}
use Rattle.node_traces.specs.Goes.{Outside}
use Rattle.node_traces.specs.Went.{Went}
use Rattle.node_snapping.specs.Stops.{Stop as Why}
use Rattle.node_snapping.specs.Hosts.{Running, IsNode, cast_in}
use Rattle.node_snapping.specs.Taking.{HasDiskCause}

-- Node n went on to one that has read so many lines more, each of them the script's, and has nothing to do. The running node `r` is that
-- one now. It is of the same cast.
pub record ReadsOn {D : Type 0} (seen : D → Option (List ℕ)) (may_leave : D → List ℕ → Type 0) (moment : D → ℕ)
    (left_since : D → ℕ → List ℕ → Type 0) (c : Cast) (snap : Snapper) (most : ℕ) (f : Outset) (n : Node) (x : Outside) (old : D)
    (count : ℕ) (y : Outside) (new : D) (r : Running) : Type 0 where
  pub node : Node
  pub went : Went seen moment left_since c snap most f n x old node y new
  pub is : IsNode f (seen new) (may_leave new) r node []
  pub cast : cast_in r ≡ c
  pub lines : node.lines ≡ n.lines + count
  pub script : node.script ≡ n.script + count

-- as `HasDiskCause` says of a call that ends with this stop
abbrev pub HasStopCause : ℕ → ℕ → Why → Type 0
HasStopCause before now why = HasDiskCause before now (let r : Result (Unit {0}) Why = Err why in r)
