-- A part of a run, with the journal's disk as it was before and as it is after.
use Rattle.std.specs.Prelude.{◌≡◌, ℕ, List, [], Option, IsSome, Some}
use Rattle.journal_disk.specs.Disks.{LeavesOnly}
use Rattle.node_defs.specs.Lines.{Stop}
use Rattle.node_defs.specs.Nodes.{Node, Snapper}
use Rattle.node_defs.specs.Casts.{Cast}
use Rattle.node_traces.specs.Goes.{Outside, Goes}
use Rattle.node_traces.specs.Stops.{Outset, LeftFrom}

-- With some answers node n becomes m, and its calls took the outside from x to y. A disk that says what it holds says it still, and a crash
-- at any moment from `old` to `new` leaves a journal that a stop after some front of these answers may leave, in a run that began at f.
pub record Went {D : Type 0} (seen : D → Option (List ℕ)) (moment : D → ℕ) (left_since : D → ℕ → List ℕ → Type 0) (c : Cast) (snap : Snapper)
    (most : ℕ) (f : Outset) (n : Node) (x : Outside) (old : D) (m : Node) (y : Outside) (new : D) : Type 0 where
  pub goes : Goes c snap most n x m y
  pub tells : IsSome (seen old) → IsSome (seen new)
  pub leaves : IsSome (seen old) → LeavesOnly moment left_since old new (LeftFrom c snap f n goes.answers [])

-- Node n went on to one that has stopped so, as `Went` says but for one thing: a disk that failed a call need not say it any more.
pub record WentToStop {D : Type 0} (seen : D → Option (List ℕ)) (moment : D → ℕ) (left_since : D → ℕ → List ℕ → Type 0) (c : Cast)
    (snap : Snapper) (most : ℕ) (f : Outset) (n : Node) (x : Outside) (old : D) (why : Stop) (y : Outside) (new : D) : Type 0 where
  pub last : Node
  pub stops : last.stopped ≡ Some why
  pub goes : Goes c snap most n x last y
  pub leaves : IsSome (seen old) → LeavesOnly moment left_since old new (LeftFrom c snap f n goes.answers [])
