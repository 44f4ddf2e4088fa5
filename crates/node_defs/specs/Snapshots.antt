-- A snapshot of a node: its place in its journal, and the image of each hosted process.
--   RPN2                        of version 2; in RPN1, which is read on a journal RPJ1 alone, images have no places
--   the journal's header after its magic, 56 bytes
--   place8                      of the closed gate
--   digest32                    SHA-256 of the journal's bytes before it
-- and for each hosted process by rising number
--   entries8                    how many it has in the journal, at most the place
--   length4, image
-- The line `snap` writes `snap HEX`, or `snap large LENGTH` where it has over 8,388,608 bytes.
use Rattle.std.specs.Prelude.{◌≡◌, ◌≢◌, ℕ, ◌+◌, ◌<◌, ◌≤◌, ◌^◌, ◌==◌, nat_lt, if◌then◌else◌, List, [], ◌∷◌, ◌++◌, length, map, drop, flat_map, codes, IsTrue}
use Rattle.std.specs.Fmt.{decimal}
use Rattle.std.specs.Int.{w64, to_be_bytes}
use Rattle.hex.specs.Hex.{encode_lower}
use Rattle.byte_defs.specs.Fields.{four_bytes}
use Rattle.byte_defs.specs.Members.{has}
use Rattle.text_defs.specs.Words.{line_text}
use Rattle.group_defs.specs.Process.{Process}
use Rattle.image_defs.specs.Images.{Image, image_of, process_of}
use Rattle.image_defs.specs.Kept.{IsKept}
use Rattle.image_defs.specs.Spelling.{image_bytes}
use Rattle.node_defs.specs.Casts.{Cast, Beginning}
use Rattle.node_defs.specs.Nodes.{Node, entries_in}

pub record Snapshot : Type 0 where
  pub place : ℕ
  pub digest : List ℕ
  -- of each hosted process
  pub entries : ℕ → ℕ
  pub images : ℕ → Image

-- ---- the bytes

-- the bytes of one process
abbrev pub part_bytes : Snapshot → ℕ → List ℕ
part_bytes s p = to_be_bytes w64 (s.entries p) ++ (four_bytes (length (image_bytes (s.images p))) ++ image_bytes (s.images p))

unfoldable pub snapshot_bytes : Cast → Snapshot → List ℕ
snapshot_bytes c s = codes "RPN2" ++ (drop 4 c.header ++ (to_be_bytes w64 s.place ++ (s.digest ++ flat_map (part_bytes s) c.hosted)))

-- how many bytes are written at most
unfoldable pub most_snapshot_bytes : ℕ
most_snapshot_bytes = 8388608

-- ---- the line

-- the snapshot of a node, with the digest of the journal's bytes before the gate
abbrev pub snapshot_of : Beginning → Node → List ℕ → Snapshot
snapshot_of b n digest = record {
  place = n.gate;
  digest = digest;
  entries = λ p. entries_in b n p;
  images = λ p. image_of (n.now p);
}

abbrev pub snap_line_of : List ℕ → List ℕ
snap_line_of bytes = if nat_lt most_snapshot_bytes (length bytes)
    then line_text (codes "snap" ∷ codes "large" ∷ decimal (length bytes) ∷ [])
    else line_text (codes "snap" ∷ encode_lower bytes ∷ [])

-- as a node that began so writes it
unfoldable pub snap_line : Cast → Beginning → Node → List ℕ → List ℕ
snap_line c b n digest = snap_line_of (snapshot_bytes c (snapshot_of b n digest))

-- ---- where a node begins by a snapshot

-- The snapshot is one of this node: each image is of its process and kept, the key has not signed less than it made nor more than it can,
-- and the numbers fit the place.
pub record IsSnapshotFor (c : Cast) (s : Snapshot) : Type 0 where
  pub own : (p : ℕ) → IsTrue (has c.hosted p) → (s.images p).me ≡ p
  pub kept : (p : ℕ) → IsTrue (has c.hosted p) → IsKept c.setting (s.images p)
  pub signed : (p : ℕ) → IsTrue (has c.hosted p) → length (s.images p).signed ≤ c.total p
  pub counted : (p : ℕ) → IsTrue (has c.hosted p) → s.entries p ≤ s.place
  pub place : s.place < 2 ^ 64
  pub digest : length s.digest ≡ 32

-- each process begins as its image says, and the reading at the snapshot's place
abbrev pub from_snapshot : Cast → Snapshot → Beginning
from_snapshot c s = record {
  from = λ p. process_of c.setting c.batch_limit (s.images p);
  before = s.entries;
  place = s.place;
}
