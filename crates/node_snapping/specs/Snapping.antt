-- How a node makes the line of its snapshot.
use Rattle.std.specs.Prelude.{ℕ, Bool, true, false, List}
use Rattle.sha2.specs.Sha256.{sha256}
use Rattle.group_defs.specs.Process.{Process}
use Rattle.image_defs.specs.Images.{Image, image_of}
use Rattle.journal_defs.specs.Journals.{up_to_gate}
use Rattle.node_defs.specs.Casts.{Cast, Beginning}
use Rattle.node_defs.specs.Lines.{Stop, NoMemory, DiskFailed}
use Rattle.node_defs.specs.Nodes.{Node, Snapper}
use Rattle.node_defs.specs.Snapshots.{snap_line}
use Rattle.node_serving.specs.Hosts.{Counts, count_in}

-- how many entries process p has, and its image
abbrev pub part_now : Counts → (ℕ → Process) → ℕ → ℕ × Image
part_now counts now p = (count_in counts p, image_of (now p))

-- SHA-256 of the bytes of the node's journal before its closed gate, of which these come before the entries that it keeps
abbrev pub journal_digest : List ℕ → Node → List ℕ
journal_digest head n = sha256 (up_to_gate head n.kept)

-- The line of the snapshot of a node that began so after these bytes of its journal, as the definitions have it. Where the disk tells what it
-- holds, the digest in it is the journal's, whatever the disk answered; where it does not, it is the one that the disk answered.
abbrev pub snapper : List ℕ → Beginning → Bool → Cast → Snapper
snapper head b true c n digest = snap_line c b n (journal_digest head n)
snapper head b false c n digest = snap_line c b n digest

-- why there is no line: memory ran out, or a call of the disk failed
abbrev pub HasNoLine : Stop → Type 0
HasNoLine NoMemory = Unit {0}
HasNoLine DiskFailed = Unit {0}
HasNoLine _ = ⊥
