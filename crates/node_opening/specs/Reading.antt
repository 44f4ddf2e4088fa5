-- How far a journal was read, and why its reading ends.
-- Names here (* for this crate alone):
--   what was read: node_after*, HasRead*, HasReadOn*, HasReadAll*, HasReadJournal*
--   why not: RefusesEntry*, BreaksOff*, HasNoPlace*, IsNotAt*, IsNotSetOut*, BreaksFrom*, BreaksBy*, Unread
use Rattle.std.specs.Prelude.{◌≡◌, ◌≢◌, ℕ, ◌+◌, Bool, true, false, List, [], ◌∷◌, ◌++◌, length, take, Option, Some, None, IfSome, IsSome}
use Rattle.std.specs.Option.{IsSomeAnd}
use Rattle.kit_defs.specs.Kits.{Kit}
use Rattle.journal_defs.specs.declared.Version.{Version}
use Rattle.journal_defs.specs.Entries.{Entry}
use Rattle.journal_defs.specs.Journals.{IsClosedAt, LieBefore}
use Rattle.node_defs.specs.Lines.{Stop, NoMemory, DiskFailed, BadJournal}
use Rattle.node_defs.specs.Casts.{Cast, Beginning, cast_of, from_start, entries_of}
use Rattle.node_defs.specs.Nodes.{Node, takes_up}
use Rattle.node_defs.specs.Lives.{FitsFrom}
use Rattle.opening_laws.specs.Reading.{after_reading, BreaksReading}
use Rattle.restored_hosts.specs.Below.{Hosts, AreHosts, Counts, count_in, SnapSaid, snapshot_said}
use Rattle.node_defs.specs.Snapshots.{from_snapshot}
use Rattle.node_opening.specs.Begins.{AreKeyedBy, HasItsPlace, begins_by, head_in}
use Rattle.node_opening.specs.Holding.{HoldsBy, IsOther, IsPlaceOf, IsStartedOn}

-- the node that has read these entries from where it begins
abbrev pub node_after : Cast → Beginning → ℕ → List Entry → Node
node_after c b lines es = after_reading c b lines es

-- These entries were read from where the node begins, which is after these bytes of the journal, up to the gate at this place: a hosted process
-- may have written each of them where it is, and the hosts are what the entries make of them. Where the disk reports what it holds, the entries
-- are there before that gate.
pub record HasRead (c : Cast) (kit : Kit) (head : List ℕ) (b : Beginning) (lines : ℕ) (seen : Option (List ℕ)) (es : List Entry) (gate : ℕ)
    (hosts : Hosts) (counts : Counts) : Type 0 where
  pub runs : (node_after c b lines es).stopped ≡ None
  pub gate_is : (node_after c b lines es).gate ≡ gate
  pub fits : FitsFrom c b.from es
  pub hosts_are : AreHosts c kit (node_after c b lines es).now None hosts
  pub counted : (p : ℕ) → count_in counts p ≡ b.before p + length (entries_of p es)
  pub stands : IfSome seen (λ file. LieBefore head file es gate)

-- One entry more was read, or there is none: the gate is closed.
abbrev pub HasReadOn : Cast → Kit → List ℕ → Beginning → ℕ → Option (List ℕ) → List Entry → ℕ → Hosts → Counts → Bool → Type 0
HasReadOn c kit head b lines seen es gate hosts counts true = (e : Entry) × HasRead c kit head b lines seen (es ++ e ∷ []) gate hosts counts
HasReadOn c kit head b lines seen es gate hosts counts false =
    HasRead c kit head b lines seen es gate hosts counts × IfSome seen (λ file. IsClosedAt file gate)

-- All entries were read: the gate after them is closed.
pub record HasReadAll (c : Cast) (kit : Kit) (head : List ℕ) (b : Beginning) (lines : ℕ) (seen : Option (List ℕ)) (gate : ℕ) (hosts : Hosts)
    (counts : Counts) : Type 0 where
  pub entries : List Entry
  pub read : HasRead c kit head b lines seen entries gate hosts counts
  pub closed : IfSome seen (λ file. IsClosedAt file gate)

-- Why a node does not take up this entry, which is at this place.
pub data RefusesEntry (c : Cast) (n : Node) (e : Entry) (place : ℕ) : Stop → Type 0 where
  forgets : RefusesEntry c n e place NoMemory
  -- no hosted process may have written it
  strange : takes_up c n e ≡ false → RefusesEntry c n e place (BadJournal place)

-- Why the entries of a journal are not read to their end.
pub data BreaksOff (c : Cast) (head : List ℕ) (b : Beginning) (lines : ℕ) (seen : Option (List ℕ)) : Stop → Type 0 where
  lacks_memory : BreaksOff c head b lines seen NoMemory
  disk_failed : BreaksOff c head b lines seen DiskFailed
  -- what is at this place is no entry of the node
  breaks : (es : List Entry) (place : ℕ) → IfSome seen (λ file. BreaksReading c b lines head file es place)
      → BreaksOff c head b lines seen (BadJournal place)

-- All entries of the journal were read from where the node begins, and the disk held them.
pub record HasReadJournal (kit : Kit) (version : Version) (s : Option SnapSaid) (lines : ℕ) (held seen : Option (List ℕ)) (gate : ℕ)
    (hosts : Hosts) (counts : Counts) : Type 0 where
  pub all : HasReadAll (cast_of kit version) kit (head_in (cast_of kit version) s seen) (begins_by (cast_of kit version) s) lines seen gate hosts
      counts
  pub holds : HoldsBy kit version s all.entries held
  pub there : IfSome seen (HasItsPlace kit s)
  pub same : IsSomeAnd held (λ file. file ≢ []) → seen ≡ held
  pub tells : IsSome held → IsSome seen
  pub keyed : AreKeyedBy kit version s

-- the disk held these bytes, and a journal that was started on it has not the snapshot's place
pub record HasNoPlace (kit : Kit) (t : SnapSaid) (held : List ℕ) : Type 0 where
  pub version : Version
  pub file : List ℕ
  pub started : IsStartedOn kit version held file
  pub other : ¬ IsPlaceOf kit t file

-- Why the journal does not go to the snapshot's place in this file.
pub data IsNotAt (kit : Kit) (t : SnapSaid) (seen : Option (List ℕ)) : Stop → Type 0 where
  disk_fails : IsNotAt kit t seen DiskFailed
  -- which is none of its places
  other_place : IfSome seen (λ file. ¬ IsPlaceOf kit t file) → IsNotAt kit t seen (BadJournal t.place)

-- Why the hosted processes are not there as the node begins.
pub data IsNotSetOut (kit : Kit) (s : Option SnapSaid) (seen : Option (List ℕ)) : Stop → Type 0 where
  too_little : IsNotSetOut kit s seen NoMemory
  not_there : (t : SnapSaid) (why : Stop) → s ≡ Some t → IsNotAt kit t seen why → IsNotSetOut kit s seen why

-- it has the place, and the reading from there on breaks off
pub record BreaksFrom (kit : Kit) (version : Version) (t : SnapSaid) (lines : ℕ) (es : List Entry) (place : ℕ) (held : List ℕ) : Type 0 where
  pub file : List ℕ
  pub started : IsStartedOn kit version held file
  pub has : IsPlaceOf kit t file
  pub breaks : BreaksReading (cast_of kit version) (from_snapshot (cast_of kit version) (snapshot_said t)) lines (take t.place file) file es place

-- what is at this place of the journal is no entry of the node, which begins so
abbrev pub BreaksBy : Kit → Version → Option SnapSaid → ℕ → List Entry → ℕ → List ℕ → Type 0
BreaksBy kit version None lines es place held =
    BreaksReading (cast_of kit version) (from_start (cast_of kit version)) lines (cast_of kit version).header held es place
BreaksBy kit version (Some t) lines es place held = BreaksFrom kit version t lines es place held

-- Why a journal is not read, of which the disk held this: there is no header of the kit; the node begins by a snapshot, whose place is none of
-- the journal; or the reading of the entries breaks off.
pub data Unread (kit : Kit) (s : Option SnapSaid) (lines : ℕ) (seen : Option (List ℕ)) : Stop → Type 0 where
  no_memory : Unread kit s lines seen NoMemory
  no_disk : Unread kit s lines seen DiskFailed
  no_header : IfSome seen (IsOther kit) → Unread kit s lines seen (BadJournal 0)
  no_place : (t : SnapSaid) → s ≡ Some t → IfSome seen (HasNoPlace kit t) → Unread kit s lines seen (BadJournal t.place)
  no_entry : (version : Version) (es : List Entry) (place : ℕ) → IfSome seen (BreaksBy kit version s lines es place)
      → Unread kit s lines seen (BadJournal place)
