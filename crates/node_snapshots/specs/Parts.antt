-- The parts of a snapshot's bytes.
use Rattle.std.specs.Prelude.{◌≡◌, ℕ, List, ◌++◌, length, map, codes}
use Rattle.std.specs.List.{flat_map}
use Rattle.std.specs.Int.{w64, to_be_bytes}
use Rattle.byte_defs.specs.Fields.{four_bytes}
use Rattle.image_defs.specs.Images.{Image, image_of}
use Rattle.image_defs.specs.Spelling.{image_bytes}
use Rattle.kit_defs.specs.Kits.{Kit, kit_digest}
use Rattle.journal_defs.specs.Journals.{Header, behind_magic}
use Rattle.node_defs.specs.Casts.{Beginning, hosted_by}
use Rattle.node_defs.specs.Nodes.{Node, entries_in}
use Rattle.snapshot_rp.specs.Views.{image}
use Rattle.node_snapshots.specs.declared.part.Part.{Part}

-- how many entries, and the image
abbrev pub part_as : Part → ℕ × Image
part_as part = (part.entries, image part.image)

-- of process p of a node that began so
abbrev pub part_in : Beginning → Node → ℕ → ℕ × Image
part_in b n p = (entries_in b n p, image_of (n.now p))

-- there is a part of each hosted process, by rising number
abbrev pub ArePartsOf : Kit → Beginning → Node → List Part → Type 0
ArePartsOf kit b n parts = map part_as parts ≡ map (part_in b n) (hosted_by kit)

-- the bytes of one part
unfoldable pub part_of : ℕ × Image → List ℕ
part_of part = to_be_bytes w64 part.0 ++ (four_bytes (length (image_bytes part.1)) ++ image_bytes part.1)

-- of all, one after the other
abbrev pub parts_of : List (ℕ × Image) → List ℕ
parts_of parts = flat_map part_of parts

-- whose journal it is
abbrev pub header_of : Kit → Header
header_of kit = record { group = kit.group; hosted = hosted_by kit; digest = kit_digest kit }

-- what comes before the parts
abbrev pub front_of : Kit → ℕ → List ℕ → List ℕ
front_of kit place digest = codes "RPN2" ++ (behind_magic (header_of kit) ++ (to_be_bytes w64 place ++ digest))
