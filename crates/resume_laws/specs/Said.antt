-- What the line of a snapshot says, as it is read where a node begins by it.
--   snap HEX                    HEX is bytes in lower-case hexadecimal; the line has at most 16,777,221 bytes
-- Of the bytes:
--   RPN1 or RPN2                the version of the images
--   56 bytes                    a journal's header after its magic
--   place8, digest32
-- and for each hosted process by rising number
--   entries8, length4, image
-- and nothing after them.
-- Names here (* for this crate alone):
--   Part*, SnapSaid*
--   the bytes: version_of*, or_fault*, part_at*, parts_at*, snapshot_in*
--   the line: most_line_bytes*, said_by_words*, snap_said*
--   the snapshot that is said: no_image*, part_of*, snapshot_said*
--   the law: HasSpelling*, said_of*, LineIsRead*, SnapsAreRead*
--   the node that the line gives back: GivesBack*, SnapsGiveBack*
use Rattle.std.specs.Prelude.{◌≡◌, ℕ, ◌/◌, ◌<◌, ◌≤◌, ◌^◌, ◌==◌, nat_lt, if◌then◌else◌, List, [], ◌∷◌, ◌++◌, length, map, drop, find, codes, IsTrue, false, Option, Some, None, Result, Ok, Err}
use Rattle.std.specs.Option.{option_map_or}
use Rattle.std.specs.Result.{result_ok}
use Rattle.std.specs.Int.{w32, w64}
use Rattle.hex.specs.Hex.{IsBytes}
use Rattle.byte_defs.specs.Choices.{and_then}
use Rattle.byte_defs.specs.Equality.{same_bytes}
use Rattle.byte_defs.specs.Fields.{◌>>=◌, refuse_if}
use Rattle.byte_defs.specs.Members.{has}
use Rattle.text_defs.specs.Words.{words_of, line_feed, bytes_of}
use Rattle.group_defs.specs.Views.{IsView}
use Rattle.journal_defs.specs.Entries.{Entry}
use Rattle.image_defs.specs.Images.{Image}
use Rattle.image_laws.specs.Alike.{IsAlike}
use Rattle.node_defs.specs.Casts.{Cast, Beginning, from_start, entries_of, taken_up}
use Rattle.node_defs.specs.Nodes.{Node, entries_in}
use Rattle.node_defs.specs.Snapshots.{Snapshot, snapshot_bytes, most_snapshot_bytes, snapshot_of, snap_line_of, snap_line, from_snapshot}
use Rattle.snapshot_defs.specs.declared.Version.{Version}
use Rattle.snapshot_defs.specs.declared.Version.TheVariants.{One, Two}
use Rattle.snapshot_defs.specs.Steps.{Step, wide_at, field_at}
use Rattle.snapshot_defs.specs.Reading.{image_in}
use Rattle.snapshot_defs.specs.Ranges.{IsImage}
use Rattle.resume_laws.specs.Resuming.{IsSnapshotAfter}

-- of a process: its number, how many entries it has, and its image
abbrev pub Part : Type 0
Part = ℕ × ℕ × Image

pub record SnapSaid : Type 0 where
  pub version : Version
  -- of the journal, after its magic
  pub header : List ℕ
  pub place : ℕ
  pub digest : List ℕ
  pub parts : List Part

-- ---- the bytes

-- the version of a snapshot with this magic
abbrev pub version_of : List ℕ → Option Version
version_of magic = if same_bytes magic (codes "RPN1") then Some One else (if same_bytes magic (codes "RPN2") then Some Two else None)

-- what there is, or this fault
abbrev pub or_fault : {A : Type 0} → ℕ → Option A → Result A ℕ
or_fault fault (Some a) = Ok a
or_fault fault None = Err fault

-- the part of this process
unfoldable pub part_at : Version → ℕ → List ℕ → Step Part
part_at v p bytes = do
  entries ← wide_at w64 bytes
  len ← wide_at w32 entries.1
  field ← field_at len.0 len.1
  image ← image_in v field.0
  Ok ((p, entries.0, image), field.1)

-- those of these processes, one after the other
unfoldable pub parts_at : Version → List ℕ → List ℕ → Step (List Part)
parts_at v [] bytes = Ok ([], bytes)
parts_at v (p ∷ ps) bytes = do
  first ← part_at v p bytes
  others ← parts_at v ps first.1
  Ok (first.0 ∷ others.0, others.1)

-- what all of the bytes say of these processes; a fault is given by how many bytes are left, or by its place in an image
unfoldable pub snapshot_in : List ℕ → List ℕ → Result SnapSaid ℕ
snapshot_in hosted bytes = do
  magic ← field_at 4 bytes
  version ← or_fault (length bytes) (version_of magic.0)
  header ← field_at 56 magic.1
  place ← wide_at w64 header.1
  digest ← field_at 32 place.1
  parts ← parts_at version hosted digest.1
  _ ← refuse_if (nat_lt 0 (length parts.1)) (length parts.1)
  Ok (record { version = version; header = header.0; place = place.0; digest = digest.0; parts = parts.0 })

-- ---- the line

-- how many bytes such a line has at most
abbrev pub most_line_bytes : ℕ
most_line_bytes = 16777221

unfoldable pub said_by_words : List ℕ → List (List ℕ) → Option SnapSaid
said_by_words hosted (word ∷ arg ∷ []) =
    if same_bytes word (codes "snap")
    then and_then (bytes_of (length arg / 2) arg) (λ bytes. result_ok (snapshot_in hosted bytes))
    else None
said_by_words hosted _ = None

-- what the line says of these processes; none where it is no line of a snapshot
unfoldable pub snap_said : List ℕ → List ℕ → Option SnapSaid
snap_said hosted line = if nat_lt most_line_bytes (length line) then None else said_by_words hosted (words_of line)

-- ---- the snapshot that is said

-- of a process that no part is of: it has its number, and nothing else
abbrev pub no_image : ℕ → Image
no_image p = record {
  me = p;
  left = [];
  perceived = [];
  accepted = [];
  signed = [];
  previous = [];
  heard = [];
  conflicts = [];
  delivered = [];
  decision = None;
  halted = false;
}

-- the part of the process
abbrev pub part_of : List Part → ℕ → Option Part
part_of parts p = find (λ part. part.0 == p) parts

abbrev pub snapshot_said : SnapSaid → Snapshot
snapshot_said t = record {
  place = t.place;
  digest = t.digest;
  entries = λ p. option_map_or (λ part. part.1) (part_of t.parts p) 0;
  images = λ p. option_map_or (λ part. part.2) (part_of t.parts p) (no_image p);
}

-- ---- the law

-- The snapshot has a spelling: each of its numbers and its images has one, what it spells is bytes, and no more of them than a line holds.
pub record HasSpelling (c : Cast) (s : Snapshot) : Type 0 where
  pub header : length c.header ≡ 60
  pub place : s.place < 2 ^ 64
  pub digest : length s.digest ≡ 32
  pub entries : (p : ℕ) → IsTrue (has c.hosted p) → s.entries p < 2 ^ 64
  pub images : (p : ℕ) → IsTrue (has c.hosted p) → IsImage Two (s.images p)
  pub bytes : IsBytes (snapshot_bytes c s)
  pub few : length (snapshot_bytes c s) ≤ most_snapshot_bytes

-- what is read then: this header, and of each hosted process what the snapshot has of it
abbrev pub said_of : Cast → Snapshot → SnapSaid
said_of c s = record {
  version = Two;
  header = drop 4 c.header;
  place = s.place;
  digest = s.digest;
  parts = map (λ p. (p, s.entries p, s.images p)) c.hosted;
}

-- What `snap` writes is a line that says the snapshot. And the snapshot that is said is one after the same entries.
pub record LineIsRead (c : Cast) (s : Snapshot) : Type 0 where
  pub line : List ℕ
  pub text : snap_line_of (snapshot_bytes c s) ≡ line ++ line_feed ∷ []
  pub says : snap_said c.hosted line ≡ Some (said_of c s)
  pub is_after : (es : List Entry) → IsSnapshotAfter c es s → IsSnapshotAfter c es (snapshot_said (said_of c s))

-- of each snapshot that has a spelling
abbrev pub SnapsAreRead : Type 0
SnapsAreRead = (c : Cast) (s : Snapshot) → HasSpelling c s → LineIsRead c s

-- ---- the node that the line gives back

-- The line of this node says a snapshot, by which each hosted process begins as it is now, but for the order of its conflicts, with as many
-- entries, and at the node's gate.
pub record GivesBack (c : Cast) (b : Beginning) (n : Node) (digest : List ℕ) : Type 0 where
  pub line : List ℕ
  pub said : SnapSaid
  pub text : snap_line c b n digest ≡ line ++ line_feed ∷ []
  pub says : snap_said c.hosted line ≡ Some said
  pub header : said.header ≡ drop 4 c.header
  pub processes : (p : ℕ) → IsTrue (has c.hosted p) → IsAlike (n.now p) ((from_snapshot c (snapshot_said said)).from p)
  pub before : (p : ℕ) → IsTrue (has c.hosted p) → (from_snapshot c (snapshot_said said)).before p ≡ entries_in b n p
  pub place : (from_snapshot c (snapshot_said said)).place ≡ n.gate

-- of a node whose processes are what entries made of those that it started with
abbrev pub SnapsGiveBack : Type 0
SnapsGiveBack = (c : Cast) (b : Beginning) (n : Node) (digest : List ℕ) (es : List Entry) → IsView c.setting.genesis
    → ((p : ℕ) → IsTrue (has c.hosted p) → n.now p ≡ taken_up c.setting ((from_start c).from p) (entries_of p es))
    → HasSpelling c (snapshot_of b n digest) → GivesBack c b n digest
