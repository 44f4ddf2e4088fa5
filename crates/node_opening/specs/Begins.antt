-- Where a node begins: at the start of its journal, or at the place of a snapshot.
use Rattle.std.specs.Prelude.{◌≡◌, ◌≢◌, ℕ, ◌≤◌, List, [], take, Option, Some, None, IfSome}
use Rattle.sha2.specs.Sha256.{sha256}
use Rattle.kit_defs.specs.Kits.{Kit}
use Rattle.letter_laws.specs.Letters.{IsKeyed}
use Rattle.journal_defs.specs.declared.Version.{Version}
use Rattle.journal_defs.specs.Journals.{LieBefore}
use Rattle.node_defs.specs.Casts.{Cast, Beginning, cast_of, from_start, hosted_by, setting_of}
use Rattle.node_defs.specs.Lives.{Found}
use Rattle.node_defs.specs.Snapshots.{IsSnapshotFor, from_snapshot}
use Rattle.node_traces.specs.Stops.{Outset}
use Rattle.restored_hosts.specs.Below.{ArePartsOf, SnapSaid, snapshot_said, IsSnapOf, Snap, AreHosts, Counts, Hosts, count_in}
use Rattle.node_opening.specs.Holding.{IsPlaceOf}

-- the hosted processes, their counts of entries, and the place: by the snapshot that is said, if one is
abbrev pub begins_by : Cast → Option SnapSaid → Beginning
begins_by c None = from_start c
begins_by c (Some t) = from_snapshot c (snapshot_said t)

-- what the file has before the first entry that is read
abbrev pub head_in : Cast → Option SnapSaid → Option (List ℕ) → List ℕ
head_in c None file = c.header
head_in c (Some t) None = []
head_in c (Some t) (Some file) = take t.place file

-- Where the disk says what it held, these are the bytes before the snapshot's place: those of the file, unless it was empty, and with the
-- snapshot's digest.
abbrev pub IsHeadIn : Option SnapSaid → Option (List ℕ) → List ℕ → Type 0
IsHeadIn None held head = Unit {0}
IsHeadIn (Some t) held head = IfSome held (λ file. (file ≢ [] → head ≡ take t.place file) × (sha256 head ≡ t.digest))

abbrev pub outset : Cast → Option SnapSaid → Option (List ℕ) → Found → Outset
outset c s file f = record { head = head_in c s file; begins = begins_by c s; found = f }

-- This is the snapshot that is said, of each process that the kit hosts, and the kit's node may begin by it.
pub record IsSnapFor (kit : Kit) (t : SnapSaid) (snap : Snap) : Type 0 where
  pub parts : ArePartsOf (hosted_by kit) t.parts
  pub is : IsSnapOf kit t snap
  pub is_for : (version : Version) → IsSnapshotFor (cast_of kit version) (snapshot_said t)

-- the same, or there is none
abbrev pub BeginsBy : Kit → Option SnapSaid → Option Snap → Type 0
BeginsBy kit None None = Unit {0}
BeginsBy kit (Some t) (Some snap) = IsSnapFor kit t snap
BeginsBy kit _ _ = ⊥

-- the place is one of this file, where the node begins by a snapshot
abbrev pub HasItsPlace : Kit → Option SnapSaid → List ℕ → Type 0
HasItsPlace kit None file = Unit {0}
HasItsPlace kit (Some t) file = IsPlaceOf kit t file

-- each process with which the node begins is the one of its number, and the roster has keys of the members of its view
abbrev pub AreKeyedBy : Kit → Version → Option SnapSaid → Type 0
AreKeyedBy kit version s = (p : ℕ) → IsKeyed (setting_of kit) p ((begins_by (cast_of kit version) s).from p)

-- The hosted processes are as the node begins with them, each with its count of entries, and the journal is at the place of the first entry
-- that they take up.
pub record IsSetOut (kit : Kit) (version : Version) (s : Option SnapSaid) (seen : Option (List ℕ)) (gate : ℕ) (hosts : Hosts) (counts : Counts)
    : Type 0 where
  pub hosts_are : AreHosts (cast_of kit version) kit (begins_by (cast_of kit version) s).from None hosts
  pub counted : (p : ℕ) → count_in counts p ≡ (begins_by (cast_of kit version) s).before p
  pub keyed : AreKeyedBy kit version s
  pub few : (p : ℕ) → count_in counts p ≤ gate
  pub gate_is : gate ≡ (begins_by (cast_of kit version) s).place
  pub there : IfSome seen (HasItsPlace kit s)
  pub stands : IfSome seen (λ file. LieBefore (head_in (cast_of kit version) s seen) file [] gate)
