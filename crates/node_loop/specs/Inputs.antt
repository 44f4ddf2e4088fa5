-- An input and a journal with which a node runs to the input's end.
use Rattle.std.specs.Prelude.{◌≡◌, ◌⊎◌, ℕ, List, [], take, Option, Some, IsSomeAnd, Ok}
use Rattle.kit_defs.specs.Kits.{Kit}
use Rattle.input_defs.specs.Fronts.{Front}
use Rattle.journal_defs.specs.declared.Version.{Version}
use Rattle.journal_defs.specs.Entries.{Entry}
use Rattle.journal_defs.specs.Journals.{ReadsAs}
use Rattle.node_defs.specs.Scripts.{most_lines}
use Rattle.node_defs.specs.Casts.{cast_of, from_start, hosted_by}
use Rattle.node_defs.specs.Lives.{FitsFrom}
use Rattle.input_defs.specs.Lines.{line_within}
use Rattle.journal_rp.specs.Headers.{IsJournal}
use Rattle.node_defs.specs.Snapshots.{IsSnapshotFor, from_snapshot}
use Rattle.node_opening.specs.Below.{SnapSaid, snap_said, snapshot_said}
use Rattle.node_opening.specs.Holding.{IsPlaceOf, header_in}
use Rattle.node_script.specs.Inputs.{node_front}
use Rattle.node_loop.specs.Resumed.{most_snap_bytes}
use Rattle.stop_laws.specs.Scripts.{IsScript}
unfoldable pub use Rattle.node_script.specs.Sources.{most_line_bytes}
pub use Rattle.node_script.specs.Sources.{line_limit}

-- a journal of this kit's node: each of its entries a hosted process may have written where it is
pub record IsJournalOf (kit : Kit) (file : List ℕ) : Type 0 where
  pub version : Version
  pub entries : List Entry
  pub reads : ReadsAs (cast_of kit version).header file entries
  pub fits : FitsFrom (cast_of kit version) (from_start (cast_of kit version)).from entries

-- The input is a kit that hosts a process and then a script of at most 1,000,000 lines in the node's own words, where lines have at most so
-- many bytes; and the file is empty, or a journal of the kit's node.
pub record IsInOrder (most : ℕ) (bytes file : List ℕ) : Type 0 where
  pub front : Front
  pub begins : node_front bytes ≡ Ok front
  pub script : IsScript most (hosted_by front.kit) most_lines front.rest
  pub journal : (file ≡ []) ⊎ IsJournalOf front.kit file

-- the same, of an input and a disk that say what they hold
abbrev pub TellInOrder : ℕ → Option (List ℕ) → Option (List ℕ) → Type 0
TellInOrder most left seen = IsSomeAnd left (λ bytes. IsSomeAnd seen (λ file. IsInOrder most bytes file))

-- ---- of a node that begins by a snapshot

-- The file is a journal of the kit's node with the snapshot's place, and from there on with entries each of which a hosted process may have
-- written where it is.
pub record IsJournalFrom (kit : Kit) (t : SnapSaid) (file : List ℕ) : Type 0 where
  pub version : Version
  pub begins : IsJournal version (header_in kit) file
  pub place : IsPlaceOf kit t file
  pub entries : List Entry
  pub reads : ReadsAs (take t.place file) file entries
  pub fits : FitsFrom (cast_of kit version) (from_snapshot (cast_of kit version) (snapshot_said t)).from entries

-- The input is a kit that hosts a process, the line of a snapshot by which its node may begin, and then a script as above; and the file is such
-- a journal.
pub record IsInOrderResuming (most : ℕ) (bytes file : List ℕ) : Type 0 where
  pub front : Front
  pub begins : node_front bytes ≡ Ok front
  pub line : List ℕ
  pub rest : List ℕ
  pub takes : line_within most_snap_bytes front.rest ≡ Some (line, rest)
  pub said : SnapSaid
  pub says : snap_said (hosted_by front.kit) line ≡ Some said
  pub is_for : (version : Version) → IsSnapshotFor (cast_of front.kit version) (snapshot_said said)
  pub script : IsScript most (hosted_by front.kit) most_lines rest
  pub journal : IsJournalFrom front.kit said file

abbrev pub TellInOrderResuming : ℕ → Option (List ℕ) → Option (List ℕ) → Type 0
TellInOrderResuming most left seen = IsSomeAnd left (λ bytes. IsSomeAnd seen (λ file. IsInOrderResuming most bytes file))
