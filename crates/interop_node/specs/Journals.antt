-- What bytes say as a journal.
-- Names here (* for this crate alone):
--   event_words*, spent_word*, signature_words*, entry_words*
--   what the bytes are: header_of*, BeginsAs*, SaysEntries*, SaysBroken*, SaysNothing*, SaysOfJournal*, OneSaid*
use Rattle.std.specs.Prelude.{◌≡◌, ◌⊎◌, ℕ, ◌<◌, Bool, true, false, List, ◌++◌, length, take, codes}
use Rattle.std.specs.List.{flat_map}
use Rattle.std.specs.Fmt.{decimal}
use Rattle.journal_defs.specs.declared.Version.{Version}
use Rattle.journal_defs.specs.Entries.{Entry, Event, Submit, Frame, Suspect, Join, Renew, Tick}
use Rattle.journal_defs.specs.Journals.{ReadsAs, BreaksAt, batch_limit, magic}
use Rattle.text_defs.specs.Words.{bytes_word}

-- the kind of the event, and what it has
abbrev pub event_words : Event → List ℕ
event_words (Submit payload) = codes "submit " ++ bytes_word payload
event_words (Frame from bytes) = codes "frame " ++ (decimal from ++ (codes " " ++ bytes_word bytes))
event_words (Suspect process) = codes "suspect " ++ decimal process
event_words (Join process) = codes "join " ++ decimal process
event_words Renew = codes "renew"
event_words Tick = codes "tick"

-- 1 where a further statement was due and no signature was left
abbrev pub spent_word : Bool → List ℕ
spent_word true = codes " 1"
spent_word false = codes " 0"

abbrev pub signature_words : List ℕ → List ℕ
signature_words signature = codes " " ++ bytes_word signature

-- `entry PROCESS EVENT SPENT` and the signatures in order, each after a space
abbrev pub entry_words : Entry → List ℕ
entry_words e = codes " entry "
    ++ (decimal e.process ++ (codes " " ++ (event_words e.event ++ (spent_word e.spent ++ flat_map signature_words e.signatures))))

-- ---- what the bytes are

-- the bytes of a header: the magic, the group, the processes that are hosted, and the digest of their kit
abbrev pub header_of : List ℕ → List ℕ
header_of bytes = take 60 bytes

-- The bytes begin with a header of this kind, and go on after it. It may be that of any group, processes and digest.
abbrev pub BeginsAs : Version → List ℕ → Type 0
BeginsAs v bytes = (take 4 bytes ≡ magic v) × (60 < length bytes)

-- `journal LIMIT` and the entries in order: how many messages a process orders at a place, and each entry before the first closed gate
pub record SaysEntries (bytes reported : List ℕ) : Type 0 where
  pub version : Version
  pub entries : List Entry
  pub begins : BeginsAs version bytes
  pub reads : ReadsAs (header_of bytes) bytes entries
  pub reported_is : reported ≡ (codes "journal " ++ decimal (batch_limit version)) ++ flat_map entry_words entries

-- `entry PLACE`: the gate there is open, and no whole entry and next gate follow it
pub record SaysBroken (bytes reported : List ℕ) : Type 0 where
  pub version : Version
  pub place : ℕ
  pub begins : BeginsAs version bytes
  pub breaks : BreaksAt (header_of bytes) bytes place
  pub reported_is : reported ≡ codes "entry " ++ decimal place

-- `notajournal`: the bytes begin with a header of neither kind, or end after it
pub record SaysNothing (bytes reported : List ℕ) : Type 0 where
  pub no_journal : (v : Version) → ¬ BeginsAs v bytes
  pub reported_is : reported ≡ codes "notajournal"

abbrev pub SaysOfJournal : List ℕ → List ℕ → Type 0
SaysOfJournal bytes reported = SaysEntries bytes reported ⊎ SaysBroken bytes reported ⊎ SaysNothing bytes reported

-- of the same bytes one thing is said
abbrev pub OneSaid : Type 0
OneSaid = (bytes x y : List ℕ) → SaysOfJournal bytes x → SaysOfJournal bytes y → x ≡ y
