-- What a snapshot says, as plain data.
use Rattle.std.specs.Prelude.{◌≡◌, ℕ, List, map, All, Option, Some, None}
use Rattle.snapshot_defs.specs.Ranges.{IsImage}
use Rattle.snapshot_defs.specs.declared.Version.TheVariants.{Two}
use Rattle.snapshot_rp.specs.Views.{image}
use Rattle.resume_laws.specs.Said as plain
use Rattle.snapshot_lines.specs.declared.bytes.Part.{Part}
use Rattle.snapshot_lines.specs.declared.bytes.SnapSaid.{SnapSaid}
use Rattle.snapshot_lines.specs.declared.fault.ReadError.{ReadError}
use Rattle.snapshot_lines.specs.declared.fault.ReadError.TheVariants as reads

-- of one process: its number, how many entries it has, and its image
abbrev pub part_as : Part → plain.Part
part_as part = (part.process, part.entries, image part.image)

abbrev pub said_as : SnapSaid → plain.SnapSaid
said_as said = record {
  version = said.version;
  header = said.header;
  place = said.place;
  digest = said.digest;
  parts = map part_as said.parts.items;
}

-- there is a part for each of these processes, in this order, and its image can be written, in version 2
pub record ArePartsOf (ps : List ℕ) (parts : List plain.Part) : Type 0 where
  pub numbers : map (λ part. part.0) parts ≡ ps
  pub writable : All (λ part. IsImage Two part.2) parts

-- where the fault is, where there is one
abbrev pub left_of : ReadError → Option ℕ
left_of (reads.Fault left) = Some left
left_of reads.NoMemory = None
