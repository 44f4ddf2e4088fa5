-- What a node that begins by a snapshot did to the outside, and what a stop of it leaves.
use Rattle.std.specs.Prelude.{◌≡◌, ℕ, ◌+◌, List, [], ◌++◌, map, Option}
use Rattle.group_defs.specs.Views.{IsView}
use Rattle.journal_defs.specs.Entries.{Entry}
use Rattle.node_defs.specs.Casts.{Cast, from_start}
use Rattle.node_defs.specs.Nodes.{Node, Call, Answer, Snapper}
use Rattle.node_defs.specs.Lives.{Found, FitsFrom}
use Rattle.node_defs.specs.Snapshots.{Snapshot, snap_line, from_snapshot}
use Rattle.node_traces.specs.Service.{Asked}
use Rattle.node_traces.specs.Goes.{Outside, Goes, with_service}
use Rattle.node_traces.specs.Stops.{LeftBy}
use Rattle.resume_laws.specs.Resuming.{IsSnapshotAfter, IsResumed, SnapAlike, after_these, begun}

-- what a service was asked, each with its answer
abbrev pub answers_in : List Asked → List (Call × Answer)
answers_in h = map (λ i. (i.call, i.answer)) h

-- Some node that the other becomes, which did to the outside the same, and whose service answered the same to the same calls; it makes its
-- lines of `snap` so.
pub record DidTheSameBy (c : Cast) (snap : Snapper) (es : List Entry) (most : ℕ) (node : Node) (x : Outside) (resumed : Node) (y : Outside)
    : Type 0 where
  pub other : Node
  pub service : List Asked
  pub same : answers_in service ≡ answers_in y.service
  pub goes : Goes c snap most node x other (with_service y service)
  pub is_resumed : IsResumed c es other resumed

-- Whatever it did to link, output and input, the node that reads the whole journal may do, and it is then that node. And what a stop leaves
-- of it reads, with the entries before it, as what a stop leaves of the other.
pub record TracesAlikeBy (c : Cast) (snap resumed_snap : Snapper) (es : List Entry) (node resumed : Node) : Type 0 where
  pub did : (most : ℕ) (x y : Outside) (m : Node) → Goes c resumed_snap most resumed x m y → DidTheSameBy c snap es most node x m y
  pub left : (f : Found) (answers : List Answer) (image : List ℕ) → LeftBy c resumed_snap f resumed answers es image
      → LeftBy c snap (after_these es f) node answers [] image

abbrev pub TracesAlike : Cast → Snapshot → List Entry → Node → Node → Type 0
TracesAlike c s es node resumed = TracesAlikeBy c (snap_line c (from_start c)) (snap_line c (from_snapshot c s)) es node resumed

abbrev pub ResumesTraceAlike : Type 0
ResumesTraceAlike = (c : Cast) (s : Snapshot) (lines : ℕ) (es fs : List Entry) (breaks : Option ℕ) → IsView c.setting.genesis
    → FitsFrom c (from_start c).from es → IsSnapshotAfter c es s
    → TracesAlike c s es (begun c (from_start c) lines (es ++ fs) breaks) (begun c (from_snapshot c s) (lines + 1) fs breaks)

-- the same of nodes that make their lines of `snap` alike, in whatever way
abbrev pub ResumesTraceAlikeBy : Type 0
ResumesTraceAlikeBy = (c : Cast) (s : Snapshot) (snap resumed_snap : Snapper) (lines : ℕ) (es fs : List Entry) (breaks : Option ℕ)
    → SnapAlike c es snap resumed_snap → IsView c.setting.genesis → FitsFrom c (from_start c).from es → IsSnapshotAfter c es s
    → TracesAlikeBy c snap resumed_snap es (begun c (from_start c) lines (es ++ fs) breaks) (begun c (from_snapshot c s) (lines + 1) fs breaks)
