-- Reading a schedule, with the first fault from left to right. A fault is at the first byte of the field that has it; while it is
-- read it is given by how many bytes are left there, and its place is how many come before. TooMany alone is at the event's tag.
-- Names here (* for this crate alone):
--   steps: Step, fault_at, wide_at, byte_at, field_at, known, passing, tested, byte_that, process_that, text_at
--   keys: ots_at, tree_at, plain_at, lms_at, hss_at, key_at
--   the header: version_by, scheme_by, limit_at, listed_at, all_listed_at, processes_at, members_at, genesis_at, setting_at, header_at
--   the events, after their tags: Roles, roles_of, other_at, steps_at, tag_at
--   the whole input: whole_of, placed, too_long, placed_past_limit, whole_input, cut_input, schedule_of
use Rattle.std.specs.Prelude.{ℕ, zero, suc, ◌+◌, ◌-◌, Bool, ◌&&◌, not, nat_lt, nat_le, ◌==◌, List, [], ◌∷◌, ◌++◌, length, take, Option, Some, None, Result, Ok, Err, is_ok, if◌then◌else◌}
use Rattle.std.specs.Option.{ok_or}
use Rattle.std.specs.Int.{Width, w8, w16, w32, w64}
use Rattle.byte_defs.specs.Choices.{first_that_holds}
use Rattle.byte_defs.specs.Equality.{same_bytes}
use Rattle.byte_defs.specs.Fields.{◌>>=◌, number_at, bytes_at}
use Rattle.byte_defs.specs.Members.{has}
use Rattle.signature_defs.specs.declared.OtsType.{OtsType}
use Rattle.signature_defs.specs.Hss.{levels_in_range, height_in_range}
use Rattle.message_defs.specs.Limits.{last_process, most_members, most_messages}
use Rattle.message_defs.specs.Reading.{statement_of}
use Rattle.replay_defs.specs.declared.FaultKind.{FaultKind}
use Rattle.replay_defs.specs.declared.FaultKind.TheVariants as faults
use Rattle.replay_defs.specs.declared.Found.{Found}
use Rattle.replay_defs.specs.declared.Fault.{Fault}
use Rattle.replay_defs.specs.declared.Scheme.{Scheme}
use Rattle.replay_defs.specs.declared.Scheme.TheVariants as schemes
use Rattle.replay_defs.specs.Keys.{Key, Plain, Lms, Hss, is_from, ots_for}
use Rattle.replay_defs.specs.Schedules.{Listed, ScheduleEvent, Submit, Raw, Pass, Drain, Lie, Suspect, Join, Renew, Tick, Header, Schedule, is_listed, is_correct, is_corrupt, steps_of, most_processes, most_steps, most_bytes, most_raw_bytes, magic}

-- ---- steps

-- what a step reads, and the bytes after it
abbrev pub Step : Type 0 → Type 0
Step A = Result (A × List ℕ) Found

-- the fault is where these bytes are left
abbrev pub fault_at : FaultKind → List ℕ → Found
fault_at kind bytes = record { kind = kind; left = length bytes }

-- a number of this width
abbrev pub wide_at : Width → List ℕ → Step ℕ
wide_at w bytes = number_at (fault_at faults.Short bytes) w bytes

-- a number of one byte
abbrev pub byte_at : List ℕ → Step ℕ
byte_at bytes = wide_at w8 bytes

-- n bytes
abbrev pub field_at : ℕ → List ℕ → Step (List ℕ)
field_at n bytes = bytes_at (fault_at faults.Short bytes) n bytes

-- what the step reads, as the table gives it; where the table has nothing, the fault is where the step began
abbrev pub known : {A B : Type 0} → (A → Option B) → FaultKind → (List ℕ → Step A) → List ℕ → Step B
known table kind step bytes = step bytes >>= λ read. ok_or (table read.0) (fault_at kind bytes) >>= λ is. Ok (is, read.1)

-- what passes the test, as a table
abbrev pub passing : {A : Type 0} → (A → Bool) → A → Option A
passing test a = if test a then Some a else None

-- what the step reads, where it passes the test; else the fault is where the step began
abbrev pub tested : {A : Type 0} → (A → Bool) → FaultKind → (List ℕ → Step A) → List ℕ → Step A
tested test kind step bytes = known (passing test) kind step bytes

-- a byte that passes the test
unfoldable pub byte_that : (ℕ → Bool) → FaultKind → List ℕ → Step ℕ
byte_that test kind bytes = tested test kind byte_at bytes

-- the number of a process, at most 63, that passes the test
unfoldable pub process_that : (ℕ → Bool) → FaultKind → List ℕ → Step ℕ
process_that test kind bytes = byte_that (λ p. nat_le p last_process && test p) kind bytes

-- a length of two bytes, at most `most`, and that many bytes
unfoldable pub text_at : ℕ → List ℕ → Step (List ℕ)
text_at most bytes = do
  len ← tested (λ n. nat_le n most) faults.Field (wide_at w16) bytes
  field_at len.0 len.1

-- ---- keys

-- a one-time type that trees in `levels` levels can have
unfoldable pub ots_at : ℕ → List ℕ → Step OtsType
ots_at levels bytes = known (ots_for levels) faults.Key byte_at bytes

-- the parameters of a tree, in `levels` levels: its height's typecode, its one-time type, I and SEED
unfoldable pub tree_at : ℕ → List ℕ → Step (ℕ × OtsType × List ℕ × List ℕ)
tree_at levels bytes = do
  code ← byte_that (height_in_range levels) faults.Key bytes
  kind ← ots_at levels code.1
  id ← field_at 16 kind.1
  seed ← field_at 32 id.1
  Ok ((code.0, kind.0, id.0, seed.0), seed.1)

-- a plain key, and how many signatures it makes
unfoldable pub plain_at : List ℕ → Step Key
plain_at bytes = do
  key ← field_at 32 bytes
  total ← wide_at w32 key.1
  Ok (Plain key.0 total.0, total.1)

-- one tree
unfoldable pub lms_at : List ℕ → Step Key
lms_at bytes = do
  tree ← tree_at 1 bytes
  Ok (Lms tree.0.0 tree.0.1 tree.0.2 tree.0.3, tree.1)

-- trees in levels
unfoldable pub hss_at : List ℕ → Step Key
hss_at bytes = do
  levels ← byte_that levels_in_range faults.Key bytes
  tree ← tree_at levels.0 levels.1
  Ok (Hss levels.0 tree.0.0 tree.0.1 tree.0.2 tree.0.3, tree.1)

-- a key of the scheme
unfoldable pub key_at : Scheme → List ℕ → Step Key
key_at schemes.Plain bytes = plain_at bytes
key_at schemes.Lms bytes = lms_at bytes
key_at schemes.Hss bytes = hss_at bytes

-- ---- the header

-- the version of a schedule that begins so
abbrev pub version_by : List ℕ → Option ℕ
version_by bytes = first_that_holds
    ((same_bytes bytes (magic 1), 1) ∷ (same_bytes bytes (magic 2), 2) ∷ (same_bytes bytes (magic 3), 3) ∷ [])

-- The first version has plain and LMS keys, the second HSS keys, the third all.
abbrev pub scheme_by : ℕ → ℕ → Option Scheme
scheme_by version byte = first_that_holds (
    ((byte == 0) && not (version == 2), schemes.Plain)
    ∷ ((byte == 1) && not (version == 2), schemes.Lms)
    ∷ ((byte == 2) && not (version == 1), schemes.Hss) ∷ [])

-- only the third version gives a limit
unfoldable pub limit_at : ℕ → List ℕ → Step ℕ
limit_at version bytes = if version == 3 then byte_that (is_from 2 most_messages) faults.Field bytes else Ok (1, bytes)

-- a process of this number or a higher one
unfoldable pub listed_at : Scheme → ℕ → List ℕ → Step Listed
listed_at scheme least bytes = do
  process ← process_that (nat_le least) faults.Roster bytes
  role ← byte_that (is_from 0 1) faults.Roster process.1
  key ← key_at scheme role.1
  Ok (record { process = process.0; corrupt = role.0 == 1; key = key.0 }, key.1)

-- n processes, by rising numbers from `least` on
unfoldable pub all_listed_at : ℕ → Scheme → ℕ → List ℕ → Step (List Listed)
all_listed_at zero scheme least bytes = Ok ([], bytes)
all_listed_at (suc n) scheme least bytes = do
  first ← listed_at scheme least bytes
  others ← all_listed_at n scheme (first.0.process + 1) first.1
  Ok (first.0 ∷ others.0, others.1)

-- their number, and each of them
unfoldable pub processes_at : Scheme → List ℕ → Step (List Listed)
processes_at scheme bytes = do
  count ← byte_that (is_from 1 most_processes) faults.Roster bytes
  all_listed_at count.0 scheme 0 count.1

-- those before, and n more members, each listed and none of those before it
unfoldable pub members_at : ℕ → (ℕ → Bool) → List ℕ → List ℕ → Step (List ℕ)
members_at zero listed before bytes = Ok (before, bytes)
members_at (suc n) listed before bytes = do
  first ← process_that (λ m. listed m && not (has before m)) faults.Roster bytes
  members_at n listed (before ++ first.0 ∷ []) first.1

-- their number, and each of them
unfoldable pub genesis_at : (ℕ → Bool) → List ℕ → Step (List ℕ)
genesis_at listed bytes = do
  count ← byte_that (is_from 1 most_members) faults.Roster bytes
  members_at count.0 listed [] count.1

-- the scheme, the batch limit and the group, after the version that says which of them there are
unfoldable pub setting_at : List ℕ → Step (Scheme × ℕ × List ℕ)
setting_at bytes = do
  version ← known version_by faults.Magic (field_at 4) bytes
  scheme ← known (scheme_by version.0) faults.Scheme byte_at version.1
  limit ← limit_at version.0 scheme.1
  group ← field_at 16 limit.1
  Ok ((scheme.0, limit.0, group.0), group.1)

-- all before the events
unfoldable pub header_at : List ℕ → Step Header
header_at bytes = do
  setting ← setting_at bytes
  processes ← processes_at setting.0.0 setting.1
  genesis ← genesis_at (is_listed processes.0) processes.1
  Ok (
    record { scheme = setting.0.0; batch_limit = setting.0.1; group = setting.0.2; processes = processes.0; genesis = genesis.0 },
    genesis.1,
  )

-- ---- the events, after their tags

-- who is correct and who corrupt
pub record Roles : Type 0 where
  pub correct : ℕ → Bool
  pub corrupt : ℕ → Bool

-- the roles of a header's processes
abbrev pub roles_of : List Listed → Roles
roles_of ls = record { correct = is_correct ls; corrupt = is_corrupt ls }

-- any process
unfoldable pub other_at : List ℕ → Step ℕ
other_at bytes = byte_that (λ p. nat_le p last_process) faults.Field bytes

-- how many steps the event takes that begins with this tag: as many as a Drain counts, else one
unfoldable pub steps_at : ℕ → List ℕ → Step ℕ
steps_at tag bytes = if tag == 4 then wide_at w32 bytes else Ok (1, bytes)

-- the tag of an event, and how many steps it takes
unfoldable pub tag_at : List ℕ → Step (ℕ × ℕ)
tag_at bytes = do
  tag ← byte_that (is_from 1 9) faults.Tag bytes
  steps ← steps_at tag.0 tag.1
  Ok ((tag.0, steps.0), tag.1)

module _ (roles : Roles) where
  -- a correct process
  abbrev pub correct_at : List ℕ → Step ℕ
  correct_at bytes = process_that roles.correct faults.Field bytes

  -- the fields of a Submit
  unfoldable pub submit_at : List ℕ → Step ScheduleEvent
  submit_at bytes = do
    p ← correct_at bytes
    payload ← text_at 65535 p.1
    Ok (Submit p.0 payload.0, payload.1)

  -- the fields of a Raw
  unfoldable pub raw_at : List ℕ → Step ScheduleEvent
  raw_at bytes = do
    to ← correct_at bytes
    from ← other_at to.1
    frame ← text_at most_raw_bytes from.1
    Ok (Raw to.0 from.0 frame.0, frame.1)

  -- the fields of a Pass
  unfoldable pub pass_at : List ℕ → Step ScheduleEvent
  pass_at bytes = do
    frame ← wide_at w32 bytes
    to ← correct_at frame.1
    Ok (Pass frame.0 to.0, to.1)

  -- the fields of a Drain
  unfoldable pub drain_at : List ℕ → Step ScheduleEvent
  drain_at bytes = do
    count ← wide_at w32 bytes
    mask ← wide_at w64 count.1
    Ok (Drain count.0 mask.0, mask.1)

  -- the fields of a Lie; a fault of its statement is at the statement's first byte, after the length
  unfoldable pub lie_at : List ℕ → Step ScheduleEvent
  lie_at bytes = do
    signer ← process_that roles.corrupt faults.Field bytes
    mask ← wide_at w64 signer.1
    len ← wide_at w16 mask.1
    statement ← tested (λ st. is_ok (statement_of st)) faults.Field (field_at len.0) len.1
    Ok (Lie signer.0 mask.0 statement.0, statement.1)

  -- the fields of a Suspect or a Join
  unfoldable pub about_at : (ℕ → ℕ → ScheduleEvent) → List ℕ → Step ScheduleEvent
  about_at kind bytes = do
    p ← correct_at bytes
    other ← other_at p.1
    Ok (kind p.0 other.0, other.1)

  -- the field of a Renew or a Tick
  unfoldable pub alone_at : (ℕ → ScheduleEvent) → List ℕ → Step ScheduleEvent
  alone_at kind bytes = do
    p ← correct_at bytes
    Ok (kind p.0, p.1)

  -- the fields by the tag
  unfoldable pub fields_at : ℕ → List ℕ → Step ScheduleEvent
  fields_at tag bytes =
      if tag == 1 then submit_at bytes else (if tag == 2 then raw_at bytes else (if tag == 3 then pass_at bytes else
      (if tag == 4 then drain_at bytes else (if tag == 5 then lie_at bytes else
      (if tag == 6 then about_at Suspect bytes else (if tag == 7 then about_at Join bytes else
      (if tag == 8 then alone_at Renew bytes else alone_at Tick bytes)))))))

  -- an event, where `left` steps are left
  unfoldable pub event_at : ℕ → List ℕ → Step ScheduleEvent
  event_at left bytes = do
    tag ← tested (λ tag. nat_le tag.1 left) faults.TooMany tag_at bytes
    fields_at tag.0.0 tag.1

  -- Events to the end of the bytes, where `left` steps are left. Each has a byte at least, so as many turns as bytes are enough.
  unfoldable pub events_at : ℕ → ℕ → List ℕ → Result (List ScheduleEvent) Found
  events_at turns left [] = Ok []
  events_at zero left (b ∷ bytes) = Ok []
  events_at (suc turns) left (b ∷ bytes) = do
    first ← event_at left (b ∷ bytes)
    others ← events_at turns (left - steps_of first.0) first.1
    Ok (first.0 ∷ others)

-- ---- the whole input

-- the schedule that all of the bytes spell, however many they are
unfoldable pub whole_of : List ℕ → Result Schedule Found
whole_of bytes = do
  header ← header_at bytes
  events ← events_at (roles_of header.0.processes) (length header.1) most_steps header.1
  Ok (record { header = header.0; events = events })

-- the place of a fault in `size` bytes
abbrev pub placed : ℕ → Found → Fault
placed size found = record { kind = found.kind; place = size - found.left }

-- the fault of an input that passes the limit
abbrev pub too_long : Fault
too_long = record { kind = faults.TooLong; place = most_bytes }

-- Of an input that passes the limit, a field that the limit cuts off is no fault.
abbrev pub placed_past_limit : FaultKind → Fault → Fault
placed_past_limit faults.Short fault = too_long
placed_past_limit kind fault = fault

-- what was read of an input of `size` bytes
abbrev pub whole_input : ℕ → Result Schedule Found → Result Schedule Fault
whole_input size (Ok s) = Ok s
whole_input size (Err found) = Err (placed size found)

-- what was read of an input's bytes up to the limit, where more follow
abbrev pub cut_input : Result Schedule Found → Result Schedule Fault
cut_input (Ok s) = Err too_long
cut_input (Err found) = Err (placed_past_limit found.kind (placed most_bytes found))

-- the schedule that the bytes spell, or the first fault; past the limit they are too long, where no other fault comes before it
unfoldable pub schedule_of : List ℕ → Result Schedule Fault
schedule_of bytes = if nat_lt most_bytes (length bytes) then cut_input (whole_of (take most_bytes bytes))
    else whole_input (length bytes) (whole_of bytes)
