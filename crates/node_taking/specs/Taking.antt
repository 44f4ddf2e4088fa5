-- What becomes of a running node in a part of its run, with its journal's disk before and after.
use Rattle.std.specs.Prelude.{◌≡◌, ℕ, List, Option, IfSome}
use Rattle.journal_defs.specs.Crashes.{Survives}
use Rattle.node_defs.specs.Casts.{Cast}
use Rattle.node_defs.specs.Lines.{Stop}
use Rattle.node_defs.specs.Nodes.{Node, Task, Snapper}
use Rattle.node_traces.specs.Stops.{Outset}
use Rattle.node_traces.specs.Goes.{Outside}
use Rattle.node_traces.specs.Went.{Went, WentToStop}
use Rattle.sealing_laws.specs.Running.{Running, IsNode, cast_in}
pub use Rattle.sealing_laws.specs.Running.{HasDiskCause, outside}

-- some node of the definitions, which began at some place of its journal and is at some tasks, is this running one
pub record HasNode (seen : Option (List ℕ)) (may_leave : List ℕ → Type 0) (r : Running) : Type 0 where
  pub from : Outset
  pub node : Node
  pub tasks : List Task
  pub is : IsNode from seen may_leave r node tasks

-- Node n went on to one at these tasks, which the running node `r` is now. It is of the same cast, and no line was read.
pub record GoesOnTo {D : Type 0} (seen : D → Option (List ℕ)) (may_leave : D → List ℕ → Type 0) (moment : D → ℕ)
    (left_since : D → ℕ → List ℕ → Type 0) (c : Cast) (snap : Snapper) (most : ℕ) (f : Outset) (n : Node) (x : Outside) (old : D)
    (ts : List Task) (y : Outside) (new : D) (r : Running) : Type 0 where
  pub node : Node
  pub went : Went seen moment left_since c snap most f n x old node y new
  pub is : IsNode f (seen new) (may_leave new) r node ts
  pub cast : cast_in r ≡ c
  pub lines : node.lines ≡ n.lines
  pub script : node.script ≡ n.script

-- Node n went on to one that has stopped so; and what it leaves on a disk that reported what it holds is what a run may find, with the entries
-- that it has kept.
pub record StopsSo {D : Type 0} (seen : D → Option (List ℕ)) (may_leave : D → List ℕ → Type 0) (moment : D → ℕ)
    (left_since : D → ℕ → List ℕ → Type 0) (c : Cast) (snap : Snapper) (most : ℕ) (f : Outset) (n : Node) (x : Outside) (old : D) (why : Stop)
    (y : Outside) (new : D) : Type 0 where
  pub stop : WentToStop seen moment left_since c snap most f n x old why y new
  pub stands : IfSome (seen old) (λ file. Survives f.head stop.last.kept (may_leave new))
