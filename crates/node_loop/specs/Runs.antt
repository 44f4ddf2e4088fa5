-- The run of a node, from its kit to its stop, by what input, link, output and disk were before it and are after it.
-- Names here (* for this crate alone):
--   opened_on*, snaps_from*, snaps_of*
--   what a crash leaves: MayBeLeft*, LeavesOnceOpened*
--   a run: HasRunFrom*, HasRun*, HasNotOpenedBy*, HasNotOpened*, HasRead*, HasStopped*
use Rattle.std.specs.Prelude.{◌≡◌, ◌⊎◌, ℕ, List, [], Option, Some, None, IsSome, is_some}
use Rattle.kit_defs.specs.Kits.{Kit}
use Rattle.journal_defs.specs.declared.Version.{Version}
use Rattle.journal_defs.specs.Entries.{Entry}
use Rattle.journal_defs.specs.Crashes.{Survives}
use Rattle.journal_disk.specs.Disks.{HasRest, LeavesOnly, LeavesStaged}
use Rattle.node_defs.specs.Casts.{Cast, cast_of, from_start}
use Rattle.node_defs.specs.Lines.{Stop}
use Rattle.node_defs.specs.Lives.{Found, fresh}
use Rattle.node_defs.specs.Nodes.{Node, Answer, Snapper, opens}
use Rattle.node_traces.specs.Outside.{LinkSeen, SinkSeen, SourceSeen}
use Rattle.node_traces.specs.Service.{Asked}
use Rattle.node_traces.specs.Goes.{Outside, Goes}
use Rattle.node_traces.specs.Stops.{LeftFrom, Outset, at_start}
use Rattle.node_opening.specs.Below.{SnapSaid}
use Rattle.node_opening.specs.Begins.{head_in}
use Rattle.node_opening.specs.Holding.{HoldsAs}
use Rattle.node_opening.specs.Opened.{Unopened}
use Rattle.node_script.specs.Inputs.{HasKit, HasNoKit}
use Rattle.node_script.specs.Sources.{IsSeen, SeenAs}
use Rattle.node_script.specs.Words.{outside, snapper}
use Rattle.stop_laws.specs.Stops.{CanStop}

-- the node of this kit, opened on a journal of this kind with these entries; the line `go` of the kit has this number
abbrev pub opened_on : Kit → Version → ℕ → List Entry → Node
opened_on kit version go es = opens (cast_of kit version) (from_start (cast_of kit version)) go es

-- how a node that began there makes the lines of its snapshots, by whether its disk tells what it holds
abbrev pub snaps_from : Outset → Option (List ℕ) → Cast → Snapper
snaps_from f held c = snapper f.head f.begins (is_some held) c

-- the same of one that began at the start of its journal
abbrev pub snaps_of : Option (List ℕ) → Kit → Version → Snapper
snaps_of held kit version = snaps_from (at_start (cast_of kit version) fresh) held (cast_of kit version)

-- The image reads as what the run found, with the entry that every image had staged or without it; or as what a stop after some front of the
-- answers leaves.
abbrev pub MayBeLeft : Cast → Snapper → Outset → Node → List Answer → (List ℕ → Type 0) → List ℕ → Type 0
MayBeLeft c snap f n answers images image = LeavesStaged f.head f.found.sure images image ⊎ LeftFrom c snap f n answers [] image

-- Once the opening was over the journal was at rest, with the entries of some node of the run. From that moment on a crash leaves what a stop
-- after some front of the answers leaves. So it is of a journal too that this run has made.
pub record LeavesOnceOpened {D : Type 0} (seen : D → Option (List ℕ)) (may_leave : D → List ℕ → Type 0) (moment : D → ℕ)
    (left_since : D → ℕ → List ℕ → Type 0) (c : Cast) (snap : Snapper) (f : Outset) (n : Node) (answers : List Answer) (new : D) : Type 0 where
  pub disk : D
  pub begun : Node
  pub rest : HasRest (seen disk) (may_leave disk) f.head begun.kept begun.gate
  pub leaves : LeavesOnly moment left_since disk new (LeftFrom c snap f n answers [])

-- The node of this kit began at `from`, by the kind of its journal, and was opened on entries that the disk held (`holds`), and after its opening
-- it went on to node `last`: x is link, output and input before, and y is what they are then. What a crash leaves at any moment is what was
-- found, or what a stop leaves; and what the next run finds is the entries that are kept, perhaps with one more that was staged.
pub record HasRunFrom {D : Type 0} (seen : D → Option (List ℕ)) (may_leave : D → List ℕ → Type 0) (moment : D → ℕ)
    (left_since : D → ℕ → List ℕ → Type 0) (kit : Kit) (from : Version → Outset) (held : Version → List Entry → Type 0) (most : ℕ) (go : ℕ)
    (x : Outside) (old : D) (last : Node) (y : Outside) (new : D) : Type 0 where
  pub version : Version
  pub entries : List Entry
  pub holds : held version entries
  pub goes : Goes (cast_of kit version) (snaps_from (from version) (seen old) (cast_of kit version)) most
      (opens (cast_of kit version) (from version).begins go entries) x last y
  pub leaves : IsSome (seen old) → Survives (from version).head (from version).found.sure (may_leave old)
      → LeavesOnly moment left_since old new
      (MayBeLeft (cast_of kit version) (snaps_from (from version) (seen old) (cast_of kit version)) (from version)
      (opens (cast_of kit version) (from version).begins go entries) goes.answers (may_leave old))
  pub once_opened : IsSome (seen old) → LeavesOnceOpened seen may_leave moment left_since (cast_of kit version)
      (snaps_from (from version) (seen old) (cast_of kit version)) (from version)
      (opens (cast_of kit version) (from version).begins go entries) goes.answers new
  pub finds : IsSome (seen old) → Survives (from version).head last.kept (may_leave new)

-- the same of a node that began at the start of its journal; `f.sure` is what this run found
abbrev pub HasRun : {D : Type 0} → (D → Option (List ℕ)) → (D → List ℕ → Type 0) → (D → ℕ) → (D → ℕ → List ℕ → Type 0) → Kit → ℕ → Found → ℕ
    → Outside → D → Node → Outside → D → Type 0
HasRun {D} seen may_leave moment left_since kit most f go x old last y new = HasRunFrom seen may_leave moment left_since kit
    (λ v. at_start (cast_of kit v) f) (λ v es. HoldsAs kit v es (seen old)) most go x old last y new

-- The node, which begins so, has not opened, and this is why. Its journal is as it was found: at every moment a crash leaves what the run found,
-- with the staged entry or without it, and the next run finds it again.
pub record HasNotOpenedBy {D : Type 0} (seen : D → Option (List ℕ)) (may_leave : D → List ℕ → Type 0) (moment : D → ℕ)
    (left_since : D → ℕ → List ℕ → Type 0) (kit : Kit) (s : Option SnapSaid) (most : ℕ) (f : Found) (go : ℕ) (x : Outside) (old : D)
    (why : Stop) (y : Outside) (new : D) : Type 0 where
  -- it has written no snapshot, however it makes one
  pub snap : Snapper
  pub unopened : Unopened kit s snap most go (seen old) x y why
  pub leaves : (version : Version) → IsSome (seen old) → Survives (head_in (cast_of kit version) s (seen old)) f.sure (may_leave old)
      → LeavesOnly moment left_since old new (LeavesStaged (head_in (cast_of kit version) s (seen old)) f.sure (may_leave old))
  pub finds : (version : Version) → IsSome (seen old) → Survives (head_in (cast_of kit version) s (seen old)) f.sure (may_leave old)
      → Survives (head_in (cast_of kit version) s (seen old)) f.sure (may_leave new)

abbrev pub HasNotOpened : {D : Type 0} → (D → Option (List ℕ)) → (D → List ℕ → Type 0) → (D → ℕ) → (D → ℕ → List ℕ → Type 0) → Kit → ℕ → Found
    → ℕ → Outside → D → Stop → Outside → D → Type 0
HasNotOpened {D} seen may_leave moment left_since kit most f go x old why y new =
    HasNotOpenedBy seen may_leave moment left_since kit None most f go x old why y new

-- a kit was read up to its line `go`, and of it, of the number of that line and of the input after it this holds
pub record HasRead (k : SourceSeen) (P : Kit → ℕ → SourceSeen → Type 0) : Type 0 where
  pub kit : Kit
  pub go : ℕ
  pub source : SourceSeen
  pub has : HasKit k kit go source
  pub holds : P kit go source

-- The run of a node has ended so: its lines have at most `most` bytes, and its service had the one history and has the other now. There
-- was no kit, and nothing else was touched; or the node of the kit has not opened; or it ran, and stopped.
pub data HasStopped {D : Type 0} (seen : D → Option (List ℕ)) (may_leave : D → List ℕ → Type 0) (moment : D → ℕ)
    (left_since : D → ℕ → List ℕ → Type 0) (most : ℕ) (f : Found) (k : SourceSeen) (link : LinkSeen) (sink : SinkSeen) (old : D)
    (left : Option (List ℕ)) (faults : ℕ) (link_now : LinkSeen) (sink_now : SinkSeen) (new : D) (h i : List Asked) : Stop → Type 0 where
  no_kit : (why : Stop) → HasNoKit k faults why → link_now ≡ link → sink_now ≡ sink → new ≡ old → i ≡ h
      → HasStopped seen may_leave moment left_since most f k link sink old left faults link_now sink_now new h i why
  not_opened : (why : Stop) (ahead : List ℕ) → HasRead k (λ kit go l. IsSeen l ahead left faults
      × HasNotOpened seen may_leave moment left_since kit most f go (outside link sink l h) old why (outside link_now sink_now l i) new)
      → HasStopped seen may_leave moment left_since most f k link sink old left faults link_now sink_now new h i why
  ran : (why : Stop) (ahead : List ℕ) → CanStop why → HasRead k (λ kit go l. SeenAs (λ m. (last : Node) × (last.stopped ≡ Some why)
      × HasRun seen may_leave moment left_since kit most f go (outside link sink l h) old last (outside link_now sink_now m i) new) ahead left faults)
      → HasStopped seen may_leave moment left_since most f k link sink old left faults link_now sink_now new h i why
