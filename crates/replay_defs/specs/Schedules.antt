-- Schedules: who takes part, and what happens. `n2` is a number of two bytes, the higher one first; so are `n4` and `n8`.
--   52 50 53 31, scheme1 (0 plain, 1 LMS), or
--   52 50 53 32, scheme1 (2 HSS), or
--   52 50 53 33, scheme1 (0, 1 or 2), batch limit1 (2 to 16); in the two above the limit is 1
--   group16,
--   number of processes1, and for each by rising number: process1, role1 (0 correct, 1 corrupt), key,
--   number of genesis members1, and their numbers in rank order,
--   events to the end of the input:
--     01 Submit   process1 length2 payload
--     02 Raw      to1 from1 length2 bytes
--     03 Pass     frame4 to1
--     04 Drain    count4 mask8
--     05 Lie      signer1 mask8 length2 statement
--     06 Suspect  process1 other1
--     07 Join     process1 other1
--     08 Renew    process1
--     09 Tick     process1
-- A key is by its scheme: plain key32 total4; LMS height1 (5 to 7) type1 (1 to 4) id16 seed32; HSS levels1 (1 to 3) and these four.
-- Bit p of a mask, the lowest being bit 0, is that of process p. A Drain takes as many steps as it counts, every other event one.
-- Bytes are a schedule exactly where they are at most 67,108,864, with 1 to 64 processes and 1 to 16 different members of
-- the roster, at most 1,000,000 steps, each event at a correct process but a Lie by a corrupt one, and nothing after the last event.
-- Names here (* for this crate alone):
--   Listed, ScheduleEvent, Header, Schedule, is_listed, is_correct, is_corrupt, steps_of
--   the limits: most_processes, most_steps, most_bytes, most_raw_bytes
--   the spelling: eight_bytes, scheme_byte, version_without_limit, version_of, magic, limit_bytes, role_byte, listed_bytes,
--     header_bytes, event_bytes, schedule_bytes
--   the ranges: AreListed, IsEvent, IsHeader, IsSchedule
use Rattle.std.specs.Prelude.{◌≡◌, ◌≢◌, ℕ, ◌+◌, ◌<◌, ◌≤◌, ◌^◌, Bool, true, ◌&&◌, not, ◌==◌, if◌then◌else◌, List, [], ◌∷◌, ◌++◌, length, sum_by, AllPairs, IsOk, codes}
use Rattle.std.specs.List.{list_any, flat_map, AllByRecursion}
use Rattle.std.specs.Int.{w64, to_be_bytes}
use Rattle.byte_defs.specs.Fields.{four_bytes, text}
use Rattle.message_defs.specs.Limits.{last_process, most_members, most_messages}
use Rattle.message_defs.specs.Reading.{statement_of}
use Rattle.replay_defs.specs.declared.Scheme.{Scheme}
use Rattle.replay_defs.specs.declared.Scheme.TheVariants as schemes
use Rattle.replay_defs.specs.Keys.{Key, is_from, key_bytes, IsKey}

-- a process of the roster
pub record Listed : Type 0 where
  pub process : ℕ
  -- its frames are handed over as raw bytes or as lies, and it does nothing of its own
  pub corrupt : Bool
  pub key : Key

-- what happens to a process, or between processes
pub data ScheduleEvent : Type 0 where
  -- a payload is handed to a process, to be sent to the group
  Submit : (at : ℕ) (payload : List ℕ) → ScheduleEvent
  -- bytes are handed to a process as a frame from another
  Raw : (to from : ℕ) (bytes : List ℕ) → ScheduleEvent
  -- the frame of this number is handed to a process
  Pass : (frame to : ℕ) → ScheduleEvent
  -- `count` deliveries are made, oldest first, to the processes of the mask, and are lost to the others
  Drain : (count mask : ℕ) → ScheduleEvent
  -- a corrupt process signs a statement, and sends it to the processes of the mask
  Lie : (signer mask : ℕ) (statement : List ℕ) → ScheduleEvent
  -- a process is asked to have another removed
  Suspect : (at other : ℕ) → ScheduleEvent
  -- a process is asked to have another added
  Join : (at other : ℕ) → ScheduleEvent
  -- a process is asked to have a next view with the same members
  Renew : (at : ℕ) → ScheduleEvent
  -- time passes for a process
  Tick : (at : ℕ) → ScheduleEvent

-- who takes part
pub record Header : Type 0 where
  pub scheme : Scheme
  -- the most messages of an Order of a correct process
  pub batch_limit : ℕ
  pub group : List ℕ
  pub processes : List Listed
  -- in rank order
  pub genesis : List ℕ

-- who takes part, and the events that happen to them, in order
pub record Schedule : Type 0 where
  pub header : Header
  pub events : List ScheduleEvent

-- one of them has this number
abbrev pub is_listed : List Listed → ℕ → Bool
is_listed ls p = list_any (λ l. l.process == p) ls

-- a correct one of them has this number
abbrev pub is_correct : List Listed → ℕ → Bool
is_correct ls p = list_any (λ l. (l.process == p) && not l.corrupt) ls

-- a corrupt one of them has this number
abbrev pub is_corrupt : List Listed → ℕ → Bool
is_corrupt ls p = list_any (λ l. (l.process == p) && l.corrupt) ls

-- how many steps an event takes
abbrev pub steps_of : ScheduleEvent → ℕ
steps_of (Drain count mask) = count
steps_of _ = 1

-- ---- the limits

-- how many processes a schedule has at most
abbrev pub most_processes : ℕ
most_processes = 64

-- how many steps
unfoldable pub most_steps : ℕ
most_steps = 1000000

-- how many bytes
unfoldable pub most_bytes : ℕ
most_bytes = 67108864

-- how many bytes a Raw hands over at most
abbrev pub most_raw_bytes : ℕ
most_raw_bytes = 61440

-- ---- the spelling

-- a number in eight bytes, the highest one first
abbrev pub eight_bytes : ℕ → List ℕ
eight_bytes n = to_be_bytes w64 n

-- the byte of a scheme
abbrev pub scheme_byte : Scheme → ℕ
scheme_byte schemes.Plain = 0
scheme_byte schemes.Lms = 1
scheme_byte schemes.Hss = 2

-- without a limit on batches HSS keys are of the second version, others of the first
abbrev pub version_without_limit : Scheme → ℕ
version_without_limit schemes.Hss = 2
version_without_limit _ = 1

-- the third version is for batch limits other than 1
abbrev pub version_of : Scheme → ℕ → ℕ
version_of scheme batch_limit = if batch_limit == 1 then version_without_limit scheme else 3

-- RPS and the digit of the version
abbrev pub magic : ℕ → List ℕ
magic version = codes "RPS" ++ (48 + version) ∷ []

-- the batch limit, where it is not 1
abbrev pub limit_bytes : ℕ → List ℕ
limit_bytes batch_limit = if batch_limit == 1 then [] else batch_limit ∷ []

-- 1 for a corrupt process
abbrev pub role_byte : Bool → ℕ
role_byte corrupt = if corrupt then 1 else 0

-- process1, role1, key
abbrev pub listed_bytes : Listed → List ℕ
listed_bytes l = l.process ∷ role_byte l.corrupt ∷ key_bytes l.key

-- all before the events
abbrev pub header_bytes : Header → List ℕ
header_bytes h =
    magic (version_of h.scheme h.batch_limit) ++ (scheme_byte h.scheme ∷ (limit_bytes h.batch_limit
    ++ (h.group
    ++ (length h.processes ∷ (flat_map listed_bytes h.processes
    ++ (length h.genesis ∷ h.genesis))))))

-- the tag of an event, and its fields
abbrev pub event_bytes : ScheduleEvent → List ℕ
event_bytes (Submit at payload) = 1 ∷ at ∷ text payload
event_bytes (Raw to from bytes) = 2 ∷ to ∷ from ∷ text bytes
event_bytes (Pass frame to) = 3 ∷ (four_bytes frame ++ to ∷ [])
event_bytes (Drain count mask) = 4 ∷ (four_bytes count ++ eight_bytes mask)
event_bytes (Lie signer mask statement) = 5 ∷ signer ∷ (eight_bytes mask ++ text statement)
event_bytes (Suspect at other) = 6 ∷ at ∷ other ∷ []
event_bytes (Join at other) = 7 ∷ at ∷ other ∷ []
event_bytes (Renew at) = 8 ∷ at ∷ []
event_bytes (Tick at) = 9 ∷ at ∷ []

-- the bytes of a schedule, as the table above has them
abbrev pub schedule_bytes : Schedule → List ℕ
schedule_bytes s = header_bytes s.header ++ flat_map event_bytes s.events

-- ---- the ranges

-- by rising numbers from this one on, with keys of the scheme
abbrev pub AreListed : Scheme → ℕ → List Listed → Type 0
AreListed scheme least [] = Unit {0}
AreListed scheme least (l ∷ more) = (least ≤ l.process) × (l.process ≤ last_process) × IsKey scheme l.key
    × AreListed scheme (l.process + 1) more

-- The event is at a correct process, or is a Lie by a corrupt one, and its fields are in their ranges.
abbrev pub IsEvent : List Listed → ScheduleEvent → Type 0
IsEvent ls (Submit at payload) = (is_correct ls at ≡ true) × (length payload < 2 ^ 16)
IsEvent ls (Raw to from bytes) = (is_correct ls to ≡ true) × (from ≤ last_process) × (length bytes ≤ most_raw_bytes)
IsEvent ls (Pass frame to) = (frame < 2 ^ 32) × (is_correct ls to ≡ true)
IsEvent ls (Drain count mask) = (count < 2 ^ 32) × (mask < 2 ^ 64)
IsEvent ls (Lie signer mask statement) = (is_corrupt ls signer ≡ true) × (mask < 2 ^ 64) × (length statement < 2 ^ 16)
    × IsOk (statement_of statement)
IsEvent ls (Suspect at other) = (is_correct ls at ≡ true) × (other ≤ last_process)
IsEvent ls (Join at other) = (is_correct ls at ≡ true) × (other ≤ last_process)
IsEvent ls (Renew at) = is_correct ls at ≡ true
IsEvent ls (Tick at) = is_correct ls at ≡ true

-- a header in its ranges
pub record IsHeader (h : Header) : Type 0 where
  pub limit : is_from 1 most_messages h.batch_limit ≡ true
  pub group : length h.group ≡ 16
  pub some : is_from 1 most_processes (length h.processes) ≡ true
  pub processes : AreListed h.scheme 0 h.processes
  pub members : is_from 1 most_members (length h.genesis) ≡ true
  pub listed : AllByRecursion (λ m. is_listed h.processes m ≡ true) h.genesis
  pub distinct : AllPairs (λ m n. m ≢ n) h.genesis

-- a schedule in its ranges: what has a spelling that is read again
pub record IsSchedule (s : Schedule) : Type 0 where
  pub header : IsHeader s.header
  pub events : AllByRecursion (IsEvent s.header.processes) s.events
  pub steps : sum_by steps_of s.events ≤ most_steps
  pub size : length (schedule_bytes s) ≤ most_bytes
