-- What a node writes of itself by the line `snap`, and that a node may begin by it.
use Rattle.std.specs.Prelude.{◌≡◌, ℕ, ◌+◌, ◌<◌, ◌^◌, List, [], ◌++◌, length}
use Rattle.group_defs.specs.Views.{IsView}
use Rattle.journal_defs.specs.Entries.{Entry}
use Rattle.node_defs.specs.Casts.{Cast, Beginning, from_start}
use Rattle.node_defs.specs.Nodes.{Node, Answer, opens}
use Rattle.node_defs.specs.Lives.{FitsFrom, SignsValidly}
use Rattle.node_defs.specs.Snapshots.{Snapshot, IsSnapshotFor, snapshot_of, from_snapshot}
use Rattle.resume_laws.specs.Resuming.{IsSnapshotAfter, run_of}

-- the node's entries are these and more, they fit, and its snapshot is one after them
pub record SnapIsAfter (c : Cast) (b : Beginning) (before : List Entry) (n : Node) (digest : List ℕ) : Type 0 where
  pub fit : FitsFrom c (from_start c).from (before ++ n.kept)
  pub is_after : IsSnapshotAfter c (before ++ n.kept) (snapshot_of b n digest)

-- At each moment of a run: of one that reads the journal from its start, and of one that begins by a snapshot of its first entries.
pub record AllSnapsAreAfter (c : Cast) (lines : ℕ) (es fs : List Entry) (answers : List Answer) (digest : List ℕ) : Type 0 where
  pub from_the_start : SnapIsAfter c (from_start c) [] (run_of c (from_start c) (opens c (from_start c) lines (es ++ fs)) answers) digest
  pub from_there : (s : Snapshot) → IsView c.setting.genesis → IsSnapshotAfter c es s
      → SnapIsAfter c (from_snapshot c s) es (run_of c (from_snapshot c s) (opens c (from_snapshot c s) (lines + 1) fs) answers) digest

-- where the journal's entries fit, and the keys sign validly
abbrev pub SnapsAreAfter : Type 0
SnapsAreAfter = (c : Cast) (lines : ℕ) (es fs : List Entry) (answers : List Answer) (digest : List ℕ) → SignsValidly c
    → FitsFrom c (from_start c).from (es ++ fs) → AllSnapsAreAfter c lines es fs answers digest

-- A snapshot after entries that fit is one by which this node may begin: its images are kept, and no key has signed more than it can. Its
-- place has a spelling where it is below 2^64, and so has its digest.
abbrev pub SnapshotsAreTaken : Type 0
SnapshotsAreTaken = (c : Cast) (es : List Entry) (s : Snapshot) → IsView c.setting.genesis → FitsFrom c (from_start c).from es
    → IsSnapshotAfter c es s → s.place < 2 ^ 64 → length s.digest ≡ 32 → IsSnapshotFor c s
