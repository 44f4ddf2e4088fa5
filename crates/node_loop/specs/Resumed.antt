-- The run of a node that begins by a snapshot, from its kit and the line of the snapshot to its stop.
use Rattle.std.specs.Prelude.{◌≡◌, ℕ, ◌+◌, List, ◌++◌, Option, Some, None}
use Rattle.kit_defs.specs.Kits.{Kit}
use Rattle.journal_defs.specs.declared.Version.{Version}
use Rattle.journal_defs.specs.Entries.{Entry}
use Rattle.journal_defs.specs.Journals.{up_to_gate}
use Rattle.group_defs.specs.Views.{IsView}
use Rattle.node_defs.specs.Casts.{Cast, cast_of, from_start, hosted_by}
use Rattle.node_defs.specs.Lines.{Stop, Ended, NoMemory, ReadFailed, BadLine, BadSnap}
use Rattle.node_defs.specs.Lives.{FitsFrom, Found}
use Rattle.node_defs.specs.Nodes.{Node}
use Rattle.node_defs.specs.Snapshots.{IsSnapshotFor, from_snapshot}
use Rattle.node_traces.specs.Outside.{LinkSeen, SinkSeen, SourceSeen, SourceTook, SourceBroke, SourceEnded, SourceFailed}
use Rattle.node_traces.specs.Service.{Asked}
use Rattle.node_traces.specs.Goes.{Outside}
use Rattle.node_opening.specs.Below.{SnapSaid, snap_said, snapshot_said, IsSaidFor}
use Rattle.node_opening.specs.Begins.{IsHeadIn}
use Rattle.node_opening.specs.Holding.{HoldsBy}
use Rattle.node_script.specs.Inputs.{HasNoKit}
use Rattle.node_script.specs.Sources.{IsSeen, SeenAs}
use Rattle.node_script.specs.Words.{outside}
use Rattle.stop_laws.specs.Stops.{CanStop}
use Rattle.resume_laws.specs.Resuming.{IsSnapshotAfter}
use Rattle.resume_laws.specs.Traces.{DidTheSameBy}
use Rattle.node_loop.specs.Runs.{HasNotOpenedBy, HasRun, HasRunFrom, HasRead, opened_on, snaps_of}

-- ---- the line of the snapshot

-- how many bytes it has at most
unfoldable pub most_snap_bytes : ℕ
most_snap_bytes = 16777221

-- how a node stops for want of a snapshot in this line, where its input stops it so
abbrev pub as_snap : ℕ → Stop → Stop
as_snap number Ended = BadSnap number
as_snap number (BadLine n) = BadSnap number
as_snap number why = why

-- Why the line after `go` says no snapshot by which the kit's node may begin.
pub data IsNoSnap (kit : Kit) (go : ℕ) (k l : SourceSeen) : Stop → Type 0 where
  lacks_memory : l.faults ≡ k.faults → IsNoSnap kit go k l NoMemory
  not_read : SourceFailed k l → IsNoSnap kit go k l ReadFailed
  -- there is no such line
  no_line : SourceEnded k l → IsNoSnap kit go k l (BadSnap (go + 1))
  too_long : SourceBroke most_snap_bytes k l → IsNoSnap kit go k l (BadSnap (go + 1))
  -- or it says something else
  says_other : (line : List ℕ) → SourceTook most_snap_bytes k l line → ((version : Version) → ¬ IsSaidFor (cast_of kit version) line)
      → IsNoSnap kit go k l (BadSnap (go + 1))

-- the line after `go` was taken, and says this snapshot, by which the kit's node may begin
pub record IsSnap (kit : Kit) (t : SnapSaid) (k l : SourceSeen) : Type 0 where
  pub line : List ℕ
  pub took : SourceTook most_snap_bytes k l line
  pub says : snap_said (hosted_by kit) line ≡ Some t
  pub is_for : (version : Version) → IsSnapshotFor (cast_of kit version) (snapshot_said t)

-- The snapshot is one that `snap` writes where the journal holds these entries, which fit; and the bytes before its place are those of a journal
-- with them.
pub record IsSnapAfter (c : Cast) (t : SnapSaid) (head : List ℕ) (es : List Entry) : Type 0 where
  pub view : IsView c.setting.genesis
  pub fits : FitsFrom c (from_start c).from es
  pub after : IsSnapshotAfter c es (snapshot_said t)
  pub bytes : head ≡ up_to_gate c.header es

-- ---- the run

-- The node of this kit began by the snapshot: at its place, with the processes of its images and its counts of entries. The bytes before the
-- place are those of the file, and have the snapshot's digest. And where the snapshot is one after some entries, the node that reads them too, from
-- the journal's start and a line of the input earlier, may do to link, output and input what this one did, with the same answers of its service;
-- and it is then that node, but for the number of a refused line, which is one less.
pub record HasResumed {D : Type 0} (seen : D → Option (List ℕ)) (may_leave : D → List ℕ → Type 0) (moment : D → ℕ)
    (left_since : D → ℕ → List ℕ → Type 0) (kit : Kit) (t : SnapSaid) (most : ℕ) (f : Found) (go : ℕ) (x : Outside) (old : D) (last : Node)
    (y : Outside) (new : D) : Type 0 where
  pub head : List ℕ
  pub is_head : IsHeadIn (Some t) (seen old) head
  pub run : HasRunFrom seen may_leave moment left_since kit
      (λ v. record { head = head; begins = from_snapshot (cast_of kit v) (snapshot_said t); found = f })
      (λ v es. HoldsBy kit v (Some t) es (seen old)) most go x old last y new
  pub as_node : (es : List Entry) (lines : ℕ) → IsSnapAfter (cast_of kit run.version) t head es → lines + 1 ≡ go
      → DidTheSameBy (cast_of kit run.version) (snaps_of (seen old) kit run.version) es most (opened_on kit run.version lines (es ++ run.entries))
      x last y

-- whichever way the node begins
abbrev pub HasRunBy : {D : Type 0} → (D → Option (List ℕ)) → (D → List ℕ → Type 0) → (D → ℕ) → (D → ℕ → List ℕ → Type 0) → Kit → Option SnapSaid
    → ℕ → Found → ℕ → Outside → D → Node → Outside → D → Type 0
HasRunBy {D} seen may_leave moment left_since kit None most f go x old last y new =
    HasRun seen may_leave moment left_since kit most f go x old last y new
HasRunBy {D} seen may_leave moment left_since kit (Some t) most f go x old last y new =
    HasResumed seen may_leave moment left_since kit t most f go x old last y new

-- The node of the kit, which begins so after line `go` of the input, has ended so: it has not opened; or it ran, and stopped.
pub data NodeEnds {D : Type 0} (seen : D → Option (List ℕ)) (may_leave : D → List ℕ → Type 0) (moment : D → ℕ)
    (left_since : D → ℕ → List ℕ → Type 0) (kit : Kit) (s : Option SnapSaid) (most : ℕ) (f : Found) (go : ℕ) (l : SourceSeen)
    (link : LinkSeen) (sink : SinkSeen) (old : D) (left : Option (List ℕ)) (faults : ℕ) (link_now : LinkSeen) (sink_now : SinkSeen) (new : D)
    (h i : List Asked) : Stop → Type 0 where
  stays_shut : (why : Stop) (ahead : List ℕ) → IsSeen l ahead left faults
      → HasNotOpenedBy seen may_leave moment left_since kit s most f go (outside link sink l h) old why (outside link_now sink_now l i) new
      → NodeEnds seen may_leave moment left_since kit s most f go l link sink old left faults link_now sink_now new h i why
  ran_on : (why : Stop) (ahead : List ℕ) → CanStop why → SeenAs (λ m. (last : Node) × (last.stopped ≡ Some why)
      × HasRunBy seen may_leave moment left_since kit s most f go (outside link sink l h) old last (outside link_now sink_now m i) new)
      ahead left faults
      → NodeEnds seen may_leave moment left_since kit s most f go l link sink old left faults link_now sink_now new h i why

-- The run has ended so: its lines have at most `most` bytes, and its service had the one history and has the other now. There was no kit, or no
-- snapshot after it, and nothing else was touched; or the node of the kit, which begins by the snapshot, has ended so.
pub data HasStoppedResuming {D : Type 0} (seen : D → Option (List ℕ)) (may_leave : D → List ℕ → Type 0) (moment : D → ℕ)
    (left_since : D → ℕ → List ℕ → Type 0) (most : ℕ) (f : Found) (k : SourceSeen) (link : LinkSeen) (sink : SinkSeen) (old : D)
    (left : Option (List ℕ)) (faults : ℕ) (link_now : LinkSeen) (sink_now : SinkSeen) (new : D) (h i : List Asked) : Stop → Type 0 where
  no_kit : (why : Stop) → HasNoKit k faults why → link_now ≡ link → sink_now ≡ sink → new ≡ old → i ≡ h
      → HasStoppedResuming seen may_leave moment left_since most f k link sink old left faults link_now sink_now new h i why
  no_snap : (why : Stop) (ahead : List ℕ) → HasRead k (λ kit go l. SeenAs (λ m. IsNoSnap kit go l m why) ahead left faults)
      → link_now ≡ link → sink_now ≡ sink → new ≡ old → i ≡ h
      → HasStoppedResuming seen may_leave moment left_since most f k link sink old left faults link_now sink_now new h i why
  node_ended : (why : Stop) → HasRead k (λ kit go l. (t : SnapSaid) × (m : SourceSeen) × IsSnap kit t l m
      × NodeEnds seen may_leave moment left_since kit (Some t) most f (go + 1) m link sink old left faults link_now sink_now new h i why)
      → HasStoppedResuming seen may_leave moment left_since most f k link sink old left faults link_now sink_now new h i why
