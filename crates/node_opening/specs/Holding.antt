-- What a disk holds of the journal of a kit's processes.
use Rattle.std.specs.Prelude.{◌≡◌, ◌≢◌, ◌⊎◌, ◌<◌, ◌≤◌, List, [], ℕ, length, take, Option, Some, None, IfSome, IsSome}
use Rattle.std.specs.Option.{IsSomeAnd}
use Rattle.sha2.specs.Sha256.{sha256}
use Rattle.kit_defs.specs.Kits.{Kit, kit_digest}
use Rattle.journal_defs.specs.declared.Version.{Version}
use Rattle.journal_defs.specs.declared.Version.TheVariants.{One, Two}
use Rattle.snapshot_defs.specs.declared.Version.TheVariants as images
use Rattle.journal_defs.specs.Entries.{Entry}
use Rattle.journal_defs.specs.Journals.{Header, ReadsAs, LieBefore, behind_magic, magic}
use Rattle.journal_defs.specs.Crashes.{IsAtRest}
use Rattle.journal_disk.specs.Disks.{StaysUntold}
use Rattle.journal_rp.specs.Headers.{IsJournal}
use Rattle.node_defs.specs.Casts.{cast_of, hosted_by}
use Rattle.restored_hosts.specs.Below.{SnapSaid}

-- what the header of their journal says after its magic
abbrev pub header_in : Kit → Header
header_in kit = record { group = kit.group; hosted = hosted_by kit; digest = kit_digest kit }

-- the file is empty: it gets a journal of the second kind, without entries
pub record IsNew (version : Version) (es : List Entry) (file : List ℕ) : Type 0 where
  pub empty : file ≡ []
  pub none : es ≡ []
  pub kind : version ≡ Two

-- Where the disk says what it holds: it is empty, or it is a journal of this kind with these entries.
abbrev pub HoldsAs : Kit → Version → List Entry → Option (List ℕ) → Type 0
HoldsAs kit version es None = Unit {0}
HoldsAs kit version es (Some file) = IsNew version es file ⊎ ReadsAs (cast_of kit version).header file es

-- A journal of this kind was started on a disk that held this. Where the disk reports, no entry is before the gate at this place, and what
-- it is read as from then on is what it held.
pub record IsBegun (kit : Kit) (version : Version) (held seen : Option (List ℕ)) (gate : ℕ) : Type 0 where
  pub stands : IfSome seen (λ file. LieBefore (cast_of kit version).header file [] gate)
  pub holds : (es : List Entry) → IfSome seen (λ file. ReadsAs (cast_of kit version).header file es) → HoldsAs kit version es held
  pub fresh : IsSomeAnd held (λ file. file ≡ []) → IfSome seen (IsAtRest (cast_of kit version).header [])
  pub kind : IsSomeAnd held (λ file. file ≡ []) → version ≡ Two
  pub same : IsSomeAnd held (λ file. file ≢ []) → seen ≡ held
  pub tells : IsSome held → IsSome seen
  pub untold : StaysUntold held seen
  pub place : gate ≡ length (cast_of kit version).header

-- the file is not empty, and begins with no header of the kit
pub record IsOther (kit : Kit) (file : List ℕ) : Type 0 where
  pub some : file ≢ []
  pub neither : (version : Version) → ¬ IsJournal version (header_in kit) file

-- ---- a node that begins by a snapshot

-- The place of the snapshot is one of this file: its header is the kit's, and of the bytes before the place it has the digest. Images of the
-- first version are of a journal of the first kind alone.
pub record IsPlaceOf (kit : Kit) (t : SnapSaid) (file : List ℕ) : Type 0 where
  pub header : t.header ≡ behind_magic (header_in kit)
  pub kind : t.version ≡ images.One → take 4 file ≡ magic One
  pub after_header : 60 ≤ t.place
  pub within : t.place < length file
  pub digest : sha256 (take t.place file) ≡ t.digest

-- The disk held these bytes, and has this file once a journal of this kind was started on it: the same, if they begin with the header, or a new
-- journal, if there were none.
pub record IsStartedOn (kit : Kit) (version : Version) (held file : List ℕ) : Type 0 where
  pub old : held ≢ [] → (file ≡ held) × IsJournal version (header_in kit) held
  pub new : held ≡ [] → IsAtRest (cast_of kit version).header [] file × (version ≡ Two)

-- the file has the place, and from there on it reads as these entries
pub record ReadsFrom (kit : Kit) (version : Version) (t : SnapSaid) (es : List Entry) (held : List ℕ) : Type 0 where
  pub file : List ℕ
  pub started : IsStartedOn kit version held file
  pub place : IsPlaceOf kit t file
  pub reads : ReadsAs (take t.place file) file es

-- Where the disk says what it holds: these are the entries that the node reads, which begins so.
abbrev pub HoldsBy : Kit → Version → Option SnapSaid → List Entry → Option (List ℕ) → Type 0
HoldsBy kit version None es held = HoldsAs kit version es held
HoldsBy kit version (Some t) es held = IfSome held (ReadsFrom kit version t es)
