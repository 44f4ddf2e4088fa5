-- A journal as evidence: its header is the kit's, and it is read up to its closed gate.
-- A header differs where the journal has fewer than 61 bytes, where its magic is none, where its group or its digest is not the kit's, and
-- where its mask names a process outside the roster.
use Rattle.std.specs.Prelude.{ℕ, zero, suc, ◌+◌, ◌==◌, ◌&&◌, nat_lt, if◌then◌else◌, Bool, List, [], ◌∷◌, length, take, drop, flat_map, Option, None, option_map, Ok, Err}
use Rattle.std.specs.List.{list_all, enumerate_from}
use Rattle.std.specs.Int.{w64, from_be_bytes}
use Rattle.byte_defs.specs.Equality.{same_bytes}
use Rattle.byte_defs.specs.Choices.{first_that_holds}
use Rattle.byte_defs.specs.Members.{has}
use Rattle.rp_base.specs.Pids.{members}
use Rattle.kit_defs.specs.Kits.{Kit, kit_digest, roster_of}
use Rattle.journal_defs.specs.declared.Version.{Version}
use Rattle.journal_defs.specs.declared.Version.TheVariants.{One, Two}
use Rattle.journal_defs.specs.Entries.{Entry}
use Rattle.journal_defs.specs.Journals.{magic, open_gate, record_at, record_bytes}

-- what an audit takes of a journal's header: its kind and the processes that it hosts, rising; and the bytes from its first gate on
pub record Source : Type 0 where
  pub version : Version
  pub hosted : List ℕ
  pub records : List ℕ

-- how many bytes come before the first gate
abbrev pub head_bytes : ℕ
head_bytes = 60

-- the kind that the journal's first four bytes name
abbrev pub version_of : List ℕ → Option Version
version_of bytes = first_that_holds ((same_bytes (take 4 bytes) (magic One), One) ∷ (same_bytes (take 4 bytes) (magic Two), Two) ∷ [])

-- the processes of the header's mask
abbrev pub hosted_of : List ℕ → List ℕ
hosted_of bytes = members (from_be_bytes w64 (take 8 (drop 20 bytes)))

-- after the magic the header is of this kit: its group, processes of its roster, its digest
abbrev pub is_of_kit : Kit → List ℕ → Bool
is_of_kit kit bytes =
    same_bytes (take 16 (drop 4 bytes)) kit.group
    && list_all (has (roster_of kit.keys)) (hosted_of bytes)
    && same_bytes (take 32 (drop 28 bytes)) (kit_digest kit)

-- the journal, where its header is of this kit
unfoldable pub source_of : Kit → List ℕ → Option Source
source_of kit bytes =
    if nat_lt head_bytes (length bytes) && is_of_kit kit bytes
    then option_map (λ v. record { version = v; hosted = hosted_of bytes; records = drop head_bytes bytes }) (version_of bytes) else None

-- ---- what an audit comes across in a journal

-- at a gate: the entry after it, or none though the gate is open. Each has its journal's index and the gate's place
pub data Step : Type 0 where
  Takes : (journal place : ℕ) (entry : Entry) → Step
  Breaks : (journal place : ℕ) → Step

-- From the gate at this place on, at most this many gates: the entries up to the first closed gate, or to the first open one without
-- a whole entry and a next gate after it.
unfoldable pub steps_from : ℕ → ℕ → ℕ → List ℕ → List Step
steps_from zero j place bytes = []
steps_from (suc more) j place [] = []
steps_from (suc more) j place (gate ∷ behind) =
    if gate == open_gate then elim (record_at behind) [
      | Err none ↦ Breaks j place ∷ []
      | Ok r ↦ Takes j place r.0 ∷ steps_from more j (place + length (record_bytes r.0)) r.1
    ] else []

-- all of the journal of this index; each gate takes a byte at least
abbrev pub steps_in : ℕ × Source → List Step
steps_in s = steps_from (length s.1.records) s.0 head_bytes s.1.records

-- of all journals, by their index
abbrev pub steps_of : List Source → List Step
steps_of sources = flat_map steps_in (enumerate_from 0 sources)
