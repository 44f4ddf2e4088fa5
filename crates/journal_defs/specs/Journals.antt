-- The bytes of a journal: a header, and records, each of them after a gate.
-- Names here (* for this crate alone):
--   magic, batch_limit, Header, behind_magic, header_bytes
--   records: open_gate, closed_gate, behind_gate, record_bytes, up_to_gate, ReadsAs, BreaksAt
--   what is at a gate: IsClosedAt, HasEntryAt, IsBrokenAt, LieBefore
--   how a record is read after an open gate: record_at
--   the laws: RecordIsSpelled*, RecordIsRead*, EntryGoesOn*, ClosedGateEnds*, BrokenGateBreaks*, EntryIsThere*, GateIsThere*, OneEntry*,
--     OneReading*, MarkedAgain*
use Rattle.std.specs.Prelude.{◌≡◌, ◌≢◌, ℕ, ◌+◌, ◌<◌, ◌≤◌, nat_lt, List, [], ◌∷◌, ◌++◌, length, take, drop, codes, Ok}
use Rattle.std.specs.List.{flat_map, AllByRecursion}
use Rattle.std.specs.Int.{w32, w64, to_be_bytes}
use Rattle.byte_defs.specs.Fields.{◌>>=◌, refuse_if, number_at, bytes_at, four_bytes}
use Rattle.rp_base.specs.Pids.{mask_of}
use Rattle.journal_defs.specs.declared.Version.{Version}
use Rattle.journal_defs.specs.declared.Version.TheVariants.{One, Two}
use Rattle.journal_defs.specs.Entries.{Entry, IsEntry, AreBytes, Reading, entry_bytes, entry_of}

-- the letters of each kind: an older journal goes on as it began
abbrev pub magic : Version → List ℕ
magic One = codes "RPJ1"
magic Two = codes "RPJ2"

-- how many messages a process orders at a place
abbrev pub batch_limit : Version → ℕ
batch_limit One = 1
batch_limit Two = 16

-- whose journal it is: the group, the processes that it hosts, rising, and the digest of their kit
pub record Header : Type 0 where
  pub group : List ℕ
  pub hosted : List ℕ
  pub digest : List ℕ

abbrev pub behind_magic : Header → List ℕ
behind_magic h = h.group ++ (to_be_bytes w64 (mask_of h.hosted) ++ h.digest)

abbrev pub header_bytes : Version → Header → List ℕ
header_bytes v h = magic v ++ behind_magic h

-- ---- records

-- a gate that reads 1 is open; each other is closed
abbrev pub open_gate : ℕ
open_gate = 1

-- as a closed gate is written
abbrev pub closed_gate : ℕ
closed_gate = 0

-- what follows a gate: the entry's length, and the entry
unfoldable pub behind_gate : Entry → List ℕ
behind_gate e = four_bytes (length (entry_bytes e)) ++ entry_bytes e

abbrev pub record_bytes : Entry → List ℕ
record_bytes e = open_gate ∷ behind_gate e

-- the bytes of a journal with these entries, up to its closed gate
abbrev pub up_to_gate : List ℕ → List Entry → List ℕ
up_to_gate head es = head ++ flat_map record_bytes es

-- The bytes are a journal with this header that reads as these entries: their records follow the header, and then a
-- closed gate. What comes after that gate is not read.
pub record ReadsAs (head bytes : List ℕ) (es : List Entry) : Type 0 where
  pub gate : ℕ
  pub unread : List ℕ
  pub parts : bytes ≡ up_to_gate head es ++ gate ∷ unread
  pub closed : gate ≢ open_gate
  pub each : AllByRecursion IsEntry es

-- At this place the reading ends with a fault: records lie before it, and there is an open gate, after which no whole
-- entry and next gate come.
pub record BreaksAt (head bytes : List ℕ) (place : ℕ) : Type 0 where
  pub entries : List Entry
  pub behind : List ℕ
  pub parts : bytes ≡ up_to_gate head entries ++ open_gate ∷ behind
  pub where_it_is : place ≡ length (up_to_gate head entries)
  pub each : AllByRecursion IsEntry entries
  pub no_entry : (e : Entry) (gate : ℕ) (more : List ℕ) → IsEntry e → behind ≡ behind_gate e ++ gate ∷ more → ⊥

-- ---- what is at a gate

-- the gate at this place is closed
pub record IsClosedAt (bytes : List ℕ) (place : ℕ) : Type 0 where
  pub gate : ℕ
  pub behind : List ℕ
  pub parts : drop place bytes ≡ gate ∷ behind
  pub closed : gate ≢ open_gate

-- the gate at this place is open: after it comes the entry, and after that the next gate
pub record HasEntryAt (bytes : List ℕ) (place : ℕ) (e : Entry) (next : ℕ) : Type 0 where
  -- from the next gate on
  pub more : List ℕ
  pub parts : drop place bytes ≡ open_gate ∷ (behind_gate e ++ more)
  pub goes_on : 1 ≤ length more
  pub next_is : next ≡ place + length (record_bytes e)
  pub entry : IsEntry e

-- the gate at this place is open, and no whole entry and next gate follow it
pub record IsBrokenAt (bytes : List ℕ) (place : ℕ) : Type 0 where
  pub behind : List ℕ
  pub parts : drop place bytes ≡ open_gate ∷ behind
  pub no_entry : (e : Entry) (gate : ℕ) (more : List ℕ) → IsEntry e → behind ≡ behind_gate e ++ gate ∷ more → ⊥

-- these entries lie before this place, at which the bytes go on
pub record LieBefore (head bytes : List ℕ) (es : List Entry) (place : ℕ) : Type 0 where
  pub rest : List ℕ
  pub parts : bytes ≡ up_to_gate head es ++ rest
  pub goes_on : 1 ≤ length rest
  pub where_it_is : place ≡ length (up_to_gate head es)
  pub each : AllByRecursion IsEntry es

-- ---- how a record is read after an open gate

-- the entry, and the bytes from the next gate on
unfoldable pub record_at : List ℕ → Reading (Entry × List ℕ)
record_at bytes = do
  len ← number_at tt w32 bytes
  entry ← bytes_at tt len.0 len.1
  _ ← refuse_if (nat_lt (length entry.1) 1) tt
  e ← entry_of entry.0
  Ok (e, entry.1)

-- ---- the laws

-- what is read after an open gate is spelled so, and a byte follows it
abbrev pub RecordIsSpelled : Type 0
RecordIsSpelled = (bytes rest : List ℕ) (e : Entry) → AreBytes bytes → record_at bytes ≡ Ok (e, rest)
    → (bytes ≡ behind_gate e ++ rest) × (1 ≤ length rest) × IsEntry e

-- what is spelled after a gate is read as the entry, if a byte follows it
abbrev pub RecordIsRead : Type 0
RecordIsRead = (e : Entry) (rest : List ℕ) → IsEntry e → 1 ≤ length rest → record_at (behind_gate e ++ rest) ≡ Ok (e, rest)

-- where entries lie before a place and e is at it, the entries and then e lie before the gate after e
abbrev pub EntryGoesOn : Type 0
EntryGoesOn = (head bytes : List ℕ) (es : List Entry) (place : ℕ) (e : Entry) (next : ℕ) → LieBefore head bytes es place
    → HasEntryAt bytes place e next → LieBefore head bytes (es ++ e ∷ []) next

-- where entries lie before a place and the gate there is closed, the bytes read as the entries
abbrev pub ClosedGateEnds : Type 0
ClosedGateEnds = (head bytes : List ℕ) (es : List Entry) (place : ℕ) → LieBefore head bytes es place → IsClosedAt bytes place
    → ReadsAs head bytes es

-- where the gate after the entries is open and no whole entry and next gate follow it, the reading breaks at that gate
abbrev pub BrokenGateBreaks : Type 0
BrokenGateBreaks = (head bytes : List ℕ) (es : List Entry) (place : ℕ) → LieBefore head bytes es place → IsBrokenAt bytes place
    → BreaksAt head bytes place

-- bytes that read as entries have each of them at its place
abbrev pub EntryIsThere : Type 0
EntryIsThere = (head bytes : List ℕ) (es fs : List Entry) (e : Entry) → ReadsAs head bytes (es ++ e ∷ fs)
    → HasEntryAt bytes (length (up_to_gate head es)) e (length (up_to_gate head (es ++ e ∷ [])))

-- bytes that read as entries have a closed gate after the last of them
abbrev pub GateIsThere : Type 0
GateIsThere = (head bytes : List ℕ) (es : List Entry) → ReadsAs head bytes es → IsClosedAt bytes (length (up_to_gate head es))

-- at each place is one entry at most
abbrev pub OneEntry : Type 0
OneEntry = (bytes : List ℕ) (place : ℕ) (e f : Entry) (m n : ℕ) → HasEntryAt bytes place e m → HasEntryAt bytes place f n → e ≡ f

-- bytes read as one list of entries at most
abbrev pub OneReading : Type 0
OneReading = (head bytes : List ℕ) (es fs : List Entry) → ReadsAs head bytes es → ReadsAs head bytes fs → es ≡ fs

-- Where the bytes before a place are those that were marked there, and the bytes go on at it, the entries lie before it that lay before
-- it when it was marked.
abbrev pub MarkedAgain : Type 0
MarkedAgain = (head marked bytes : List ℕ) (es : List Entry) (place : ℕ) → LieBefore head marked es place
    → take place bytes ≡ take place marked → place < length bytes → LieBefore head bytes es place
