-- A node that begins by a snapshot, compared with one that reads the whole journal.
-- Names here (* for this crate alone):
--   one beside the other: IsSnapshotAfter, one_line_on*, IsResumed, after_these*
--   the law: begun*, run_of*, calls_of*, GoesAlikeBy*, GoesAlike*, SnapAlike, SnapsAreAlike*, ResumesAsNodeBy*, ResumesAsNode*
use Rattle.std.specs.Prelude.{◌≡◌, ℕ, ◌+◌, List, ◌++◌, length, option_map, Option, Some, None, IsTrue}
use Rattle.byte_defs.specs.Members.{has}
use Rattle.group_defs.specs.Views.{IsView}
use Rattle.journal_defs.specs.Entries.{Entry}
use Rattle.journal_defs.specs.Journals.{up_to_gate}
use Rattle.image_defs.specs.Images.{image_of}
use Rattle.image_laws.specs.Alike.{IsAlike}
use Rattle.node_defs.specs.Lines.{Stop, BadLine}
use Rattle.node_defs.specs.Casts.{Cast, Beginning, from_start, entries_of, taken_up}
use Rattle.node_defs.specs.Nodes.{Node, Call, Answer, Snapper, opens, opens_broken, run, calls}
use Rattle.node_defs.specs.Lives.{Found, leaves, FitsFrom}
use Rattle.node_defs.specs.Snapshots.{Snapshot, snap_line, from_snapshot}

-- The snapshot is one that `snap` writes where the journal holds these entries: its place is that of the gate after them, of each hosted
-- process it has the image of what its entries make of it, and how many they are.
pub record IsSnapshotAfter (c : Cast) (es : List Entry) (s : Snapshot) : Type 0 where
  pub place : s.place ≡ length (up_to_gate c.header es)
  pub entries : (p : ℕ) → IsTrue (has c.hosted p) → s.entries p ≡ length (entries_of p es)
  pub images : (p : ℕ) → IsTrue (has c.hosted p) → s.images p ≡ image_of (taken_up c.setting ((from_start c).from p) (entries_of p es))

-- ---- one node compared with another

-- a refused line is one further on, since the line of the snapshot was read before it
abbrev pub one_line_on : Stop → Stop
one_line_on (BadLine n) = BadLine (n + 1)
one_line_on why = why

-- The one is the other, but that it has read one more line of the input, and did not read the first entries of the journal, and that its
-- processes may keep their conflicts in another order.
pub record IsResumed (c : Cast) (es : List Entry) (node resumed : Node) : Type 0 where
  -- but for the order of their conflicts
  pub processes : (p : ℕ) → IsTrue (has c.hosted p) → IsAlike (node.now p) (resumed.now p)
  pub kept : node.kept ≡ es ++ resumed.kept
  pub rest : resumed ≡ record node {
    now = resumed.now;
    kept = resumed.kept;
    lines = node.lines + 1;
    stopped = option_map one_line_on node.stopped;
  }

-- what is found, with these entries before it
abbrev pub after_these : List Entry → Found → Found
after_these es f = record { sure = es ++ f.sure; more = f.more }

-- ---- the law

-- how a run begins on a journal that reads as these entries, and then breaks at this place, or does not
abbrev pub begun : Cast → Beginning → ℕ → List Entry → Option ℕ → Node
begun c b lines es None = opens c b lines es
begun c b lines es (Some place) = opens_broken c b lines es place

-- a node that began so, after these answers, and the calls that it made; it writes its own lines of `snap`
abbrev pub run_of : Cast → Beginning → Node → List Answer → Node
run_of c b n answers = run c (snap_line c b) n answers

abbrev pub calls_of : Cast → Beginning → Node → List Answer → List (Call × Answer)
calls_of c b n answers = calls c (snap_line c b) n answers

-- With the same answers both make the same calls, those that write the lines of `snap` among them; at their end the one is the other, and a
-- stop leaves the same. Each makes its lines of `snap` in its own way.
pub record GoesAlikeBy (c : Cast) (snap resumed_snap : Snapper) (es : List Entry) (node resumed : Node) (answers : List Answer) : Type 0 where
  pub calls_are : calls c resumed_snap resumed answers ≡ calls c snap node answers
  pub is_resumed : IsResumed c es (run c snap node answers) (run c resumed_snap resumed answers)
  pub leaves_are : (f : Found) → leaves c (after_these es f) (run c snap node answers)
      ≡ after_these es (leaves c f (run c resumed_snap resumed answers))

-- as the definitions make them
abbrev pub GoesAlike : Cast → Snapshot → List Entry → Node → Node → List Answer → Type 0
GoesAlike c s es node resumed answers = GoesAlikeBy c (snap_line c (from_start c)) (snap_line c (from_snapshot c s)) es node resumed answers

-- a node and the one that is resumed as it make the same lines
abbrev pub SnapAlike : Cast → List Entry → Snapper → Snapper → Type 0
SnapAlike c es snap resumed_snap = (node resumed : Node) → IsResumed c es node resumed → (digest : List ℕ)
    → resumed_snap resumed digest ≡ snap node digest

-- so they do as the definitions make them
abbrev pub SnapsAreAlike : Type 0
SnapsAreAlike = (c : Cast) (s : Snapshot) (es : List Entry) → IsView c.setting.genesis → FitsFrom c (from_start c).from es
    → IsSnapshotAfter c es s → SnapAlike c es (snap_line c (from_start c)) (snap_line c (from_snapshot c s))

-- as below, of nodes that make their lines of `snap` alike
abbrev pub ResumesAsNodeBy : Type 0
ResumesAsNodeBy = (c : Cast) (s : Snapshot) (snap resumed_snap : Snapper) (lines : ℕ) (es fs : List Entry) (breaks : Option ℕ)
    (answers : List Answer) → SnapAlike c es snap resumed_snap → IsView c.setting.genesis → FitsFrom c (from_start c).from es
    → IsSnapshotAfter c es s
    → GoesAlikeBy c snap resumed_snap es (begun c (from_start c) lines (es ++ fs) breaks) (begun c (from_snapshot c s) (lines + 1) fs breaks) answers

-- A node that begins by a snapshot of these entries, which fit, and goes on after them, is the node that reads the journal from its start:
-- whatever comes after them there, and whatever the outside answers.
abbrev pub ResumesAsNode : Type 0
ResumesAsNode = (c : Cast) (s : Snapshot) (lines : ℕ) (es fs : List Entry) (breaks : Option ℕ) (answers : List Answer)
    → IsView c.setting.genesis → FitsFrom c (from_start c).from es → IsSnapshotAfter c es s
    → GoesAlike c s es (begun c (from_start c) lines (es ++ fs) breaks) (begun c (from_snapshot c s) (lines + 1) fs breaks) answers
