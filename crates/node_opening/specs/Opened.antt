-- A node that has opened, or has not.
use Rattle.std.specs.Prelude.{◌≡◌, ℕ, List, [], Option, IsSome}
use Rattle.kit_defs.specs.Kits.{Kit}
use Rattle.journal_defs.specs.declared.Version.{Version}
use Rattle.journal_defs.specs.Entries.{Entry}
use Rattle.journal_rp.specs.Stages.{version_of}
use Rattle.node_defs.specs.Lines.{Stop}
use Rattle.node_defs.specs.Casts.{cast_of}
use Rattle.node_defs.specs.Lives.{Found}
use Rattle.node_defs.specs.Nodes.{Node, Snapper, opens}
use Rattle.node_traces.specs.Goes.{Outside, Goes}
use Rattle.opening_laws.specs.Opening.{StopsBy}
use Rattle.restored_hosts.specs.Below.{Running, IsNode, cast_in, SnapSaid}
use Rattle.node_opening.specs.Begins.{IsHeadIn, begins_by, head_in, outset}
use Rattle.node_opening.specs.Holding.{HoldsBy}
use Rattle.node_opening.specs.Reading.{Unread}

-- The node, which begins so, opens on a journal with these entries, which the disk held, and all that is to be done before its first line was
-- done: x is link, output, input and the service's history before it, and y after it. `seen` and `may_leave` are of the disk after it.
pub record HasOpened (s : Option SnapSaid) (r : Running) (snap : Snapper) (most lines : ℕ) (held : Option (List ℕ)) (x y : Outside) (seen : Option (List ℕ))
    (may_leave : List ℕ → Type 0) : Type 0 where
  pub entries : List Entry
  pub node : Node
  pub holds : HoldsBy r.kit.now (version_of r.journal) s entries held
  pub head : IsHeadIn s held (head_in (cast_in r) s seen)
  pub goes : Goes (cast_in r) snap most (opens (cast_in r) (begins_by (cast_in r) s) lines entries) x node y
  pub is : (f : Found) → IsNode (outset (cast_in r) s seen f) seen may_leave r node []
  pub read : node.lines ≡ lines
  pub script : node.script ≡ 0
  pub tells : IsSome held → IsSome seen

-- Why a node has not opened, on a disk that held this: its journal was not read, and nothing was bound or written; or it was read as these
-- entries, and what was to be done before the first line stopped.
pub data Unopened (kit : Kit) (s : Option SnapSaid) (snap : Snapper) (most lines : ℕ) (held : Option (List ℕ)) (x y : Outside) : Stop
    → Type 0 where
  reading : (why : Stop) → Unread kit s lines held why → y ≡ x → Unopened kit s snap most lines held x y why
  opening : (why : Stop) (version : Version) (es : List Entry) → HoldsBy kit version s es held
      → StopsBy (cast_of kit version) snap most (opens (cast_of kit version) (begins_by (cast_of kit version) s) lines es) x why y
      → Unopened kit s snap most lines held x y why
