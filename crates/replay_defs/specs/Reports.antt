-- The reports of a schedule, line by line: what each correct process holds, and what is true of the whole.
--   rampart report 1
--   events E
--   refused EVENT P WORD              for each refused step in order
--   process P PHASE VIEWS DELIVERED SIGNED     for each correct process by rising number, and after it
--     view P X : M M M                for each view: its members in rank order
--     message P X PLACE SENDER NUMBER HEX      for each message that it delivered, by view
--     liar P Q                        for each signer with a kept conflict, rising
--     spent P                         where a due statement met a spent key
--     halted P DELIVERED CUT          where it halted
--   honest yes, bounded yes, agree yes, sound yes     or no
-- The short report has one line `refused N`, the number of refused steps, and of the processes the first line alone.
-- Names here (* for this crate alone):
--   words: frame_word, update_word*, refusal_word, schedule_word*, payload_word
--   the word of a phase: phase_name
--   the lines of a process: process_line, view_line, message_line, message_lines, liar_line, spent_line, halted_line, block
--   the other lines: head_lines, refused_line, refused_count, answer_line, answer_lines
--   the reports: report*, report_short*, report_by
--   of the bytes: ReplayFault, report_if_run, report_if_read, report_of, fault_words
use Rattle.std.specs.Prelude.{ℕ, Bool, false, if◌then◌else◌, List, [], ◌∷◌, ◌++◌, length, map, sum, Some, None, codes, Result, Ok, Err}
use Rattle.std.specs.List.{flat_map, enumerate_from}
use Rattle.std.specs.Fmt.{decimal}
use Rattle.hex.specs.Hex.{encode_lower}
use Rattle.byte_defs.specs.Members.{has}
use Rattle.text_defs.specs.Words.{line_text}
use Rattle.message_defs.specs.declared.FrameFault.{FrameFault}
use Rattle.message_defs.specs.declared.FrameFault.TheVariants as frames
use Rattle.group_defs.specs.Views.{View, UpdateFault, ViewsSpent, AlreadyMember, GroupFull, NotMember, LastMember}
use Rattle.group_defs.specs.Process.{Delivered, Process, keyed, views_of, deliveries_of, liars_of, places_in}
use Rattle.group_defs.specs.Settle.{Phase, Observing, OpenView, ClosingView, DecidedView, HaltedView, phase_of}
use Rattle.group_defs.specs.Events.{EventFault, HaltedNow, BadFrame, Outsider, TooLong, Backlog, NoKey, NoNext}
use Rattle.group_defs.specs.Accounts.{bounded, agree, sound}
use Rattle.group_defs.specs.Family.{Family, ends, accounts, numbers, honest}
use Rattle.replay_defs.specs.declared.FaultKind.{FaultKind}
use Rattle.replay_defs.specs.declared.FaultKind.TheVariants as faults
use Rattle.replay_defs.specs.Schedules.{Schedule}
use Rattle.replay_defs.specs.declared.Fault.{Fault}
use Rattle.replay_defs.specs.Reading.{schedule_of}
use Rattle.replay_defs.specs.Worlds.{Refused, World, WorldFault, NoSuchFrame, TooMuchSent, world_of, family_of}

-- ---- words

-- the word of a frame's fault
abbrev pub frame_word : FrameFault → List ℕ
frame_word frames.Short = codes "short"
frame_word frames.Version = codes "version"
frame_word frames.Kind = codes "kind"
frame_word frames.Count = codes "count"
frame_word frames.Length = codes "length"
frame_word frames.Unordered = codes "unordered"
frame_word frames.Trailing = codes "trailing"
frame_word frames.Statement = codes "statement"
frame_word frames.Range = codes "range"
frame_word frames.Misplaced = codes "misplaced"

-- of an update by which no view follows
abbrev pub update_word : UpdateFault → List ℕ
update_word ViewsSpent = codes "viewsspent"
update_word AlreadyMember = codes "alreadymember"
update_word GroupFull = codes "groupfull"
update_word NotMember = codes "notmember"
update_word LastMember = codes "lastmember"

-- of a refused event
abbrev pub refusal_word : EventFault → List ℕ
refusal_word (HaltedNow delivered cut) = codes "halted"
refusal_word (BadFrame fault) = frame_word fault
refusal_word Outsider = codes "outsider"
refusal_word TooLong = codes "toolong"
refusal_word Backlog = codes "backlog"
refusal_word NoKey = codes "nokey"
refusal_word (NoNext fault) = update_word fault

-- of a schedule's fault
abbrev pub schedule_word : FaultKind → List ℕ
schedule_word faults.Short = codes "short"
schedule_word faults.Magic = codes "magic"
schedule_word faults.Scheme = codes "scheme"
schedule_word faults.Roster = codes "roster"
schedule_word faults.Key = codes "key"
schedule_word faults.Tag = codes "tag"
schedule_word faults.Field = codes "field"
schedule_word faults.TooLong = codes "toolong"
schedule_word faults.TooMany = codes "toomany"

-- a payload in hexadecimal, or `-` where it has no bytes
abbrev pub payload_word : List ℕ → List ℕ
payload_word [] = codes "-"
payload_word (b ∷ bytes) = encode_lower (b ∷ bytes)

-- ---- the word of a phase

-- a member is halted, or decided, or has signed its End or has not; one who is no member is an observer
abbrev pub phase_name : Phase → List ℕ
phase_name Observing = codes "observer"
phase_name OpenView = codes "open"
phase_name ClosingView = codes "closing"
phase_name DecidedView = codes "decided"
phase_name HaltedView = codes "halted"

-- ---- the lines of a process

-- its phase, how many views it installed, how many messages it delivered in them, and how many statements it signed
abbrev pub process_line : Process → List ℕ
process_line p = line_text (
    codes "process" ∷ decimal p.me ∷ phase_name (phase_of p) ∷ decimal (length (views_of p))
    ∷ decimal (sum (map length (deliveries_of p))) ∷ decimal (length p.signed) ∷ [])

-- a view that it installed
abbrev pub view_line : ℕ → View → List ℕ
view_line me v = line_text (codes "view" ∷ decimal me ∷ decimal v.number ∷ codes ":" ∷ map decimal v.members)

-- a message that it delivered in the view of this number
abbrev pub message_line : ℕ → ℕ → Delivered → List ℕ
message_line me x d = line_text (
    codes "message" ∷ decimal me ∷ decimal x ∷ decimal d.place
    ∷ decimal d.message.sender ∷ decimal d.message.number ∷ payload_word d.payload ∷ [])

-- all that it delivered in a view; views are numbered in their order
abbrev pub message_lines : ℕ → ℕ × List Delivered → List ℕ
message_lines me view = flat_map (message_line me view.0) view.1

-- one of the signers with a kept conflict
abbrev pub liar_line : ℕ → ℕ → List ℕ
liar_line me q = line_text (codes "liar" ∷ decimal me ∷ decimal q ∷ [])

-- where its number is among these, whose keys were spent
abbrev pub spent_line : List ℕ → ℕ → List ℕ
spent_line spent me = if has spent me then line_text (codes "spent" ∷ decimal me ∷ []) else []

-- how many places it delivered, and how many the view was cut to
abbrev pub halted_line : Process → List ℕ
halted_line p = elim p.decision [
  | None ↦ []
  | Some d ↦ if p.halted then line_text (codes "halted" ∷ decimal p.me ∷ decimal (places_in p.delivered) ∷ decimal d.1.cut ∷ []) else []
]

-- all that is reported of it
abbrev pub block : List ℕ → Process → List ℕ
block spent p =
    process_line p
    ++ flat_map (view_line p.me) (views_of p)
    ++ flat_map (message_lines p.me) (enumerate_from 0 (deliveries_of p))
    ++ flat_map (liar_line p.me) (liars_of p)
    ++ spent_line spent p.me
    ++ halted_line p

-- ---- the other lines

-- what it is, and how many events there were
abbrev pub head_lines : World → List ℕ
head_lines w = line_text (codes "rampart" ∷ codes "report" ∷ codes "1" ∷ []) ++ line_text (codes "events" ∷ decimal w.count ∷ [])

-- the event, the process, and why
abbrev pub refused_line : Refused → List ℕ
refused_line r = line_text (codes "refused" ∷ decimal r.event ∷ decimal r.process ∷ refusal_word r.fault ∷ [])

-- how many were refused
abbrev pub refused_count : World → List ℕ
refused_count w = line_text (codes "refused" ∷ decimal (length w.refused) ∷ [])

-- a question, answered by yes or no
abbrev pub answer_line : List ℕ → Bool → List ℕ
answer_line word holds = line_text (word ∷ (if holds then codes "yes" else codes "no") ∷ [])

-- the two premises, and what follows from them
abbrev pub answer_lines : Family → List ℕ
answer_lines f =
    answer_line (codes "honest") (honest f)
    ++ answer_line (codes "bounded") (bounded (accounts f) (numbers f))
    ++ answer_line (codes "agree") (agree (accounts f))
    ++ answer_line (codes "sound") (sound (accounts f) (keyed f.setting))

-- ---- the reports

-- the report of a world and its family
abbrev pub report : World → Family → List ℕ
report w f = head_lines w ++ flat_map refused_line w.refused ++ flat_map (block w.spent) (ends f) ++ answer_lines f

-- the short report
abbrev pub report_short : World → Family → List ℕ
report_short w f = head_lines w ++ refused_count w ++ flat_map process_line (ends f) ++ answer_lines f

-- the one or the other
abbrev pub report_by : Bool → World → Family → List ℕ
report_by short w f = if short then report_short w f else report w f

-- ---- of the bytes

-- why bytes have no report
pub data ReplayFault : Type 0 where
  NoSchedule : (fault : Fault) → ReplayFault
  Stops : (fault : WorldFault) → ReplayFault

-- the report of a world that has come to the end of its schedule
abbrev pub report_if_run : Bool → Schedule → Result World WorldFault → Result (List ℕ) ReplayFault
report_if_run short sch (Ok w) = Ok (report_by short w (family_of sch.header w))
report_if_run short sch (Err fault) = Err (Stops fault)

-- of a schedule that was read
abbrev pub report_if_read : Bool → Result Schedule Fault → Result (List ℕ) ReplayFault
report_if_read short (Ok sch) = report_if_run short sch (world_of sch)
report_if_read short (Err fault) = Err (NoSchedule fault)

-- The report of the bytes, or why there is none. A fault of the bytes comes before one of the run, wherever it is.
unfoldable pub report_of : Bool → List ℕ → Result (List ℕ) ReplayFault
report_of short bytes = report_if_read short (schedule_of bytes)

-- the words after `stop 7`, in place of a report
abbrev pub fault_words : ReplayFault → List (List ℕ)
fault_words (NoSchedule fault) = schedule_word fault.kind ∷ decimal fault.place ∷ []
fault_words (Stops (NoSuchFrame event frame sent)) = codes "frame" ∷ decimal event ∷ decimal frame ∷ decimal sent ∷ []
fault_words (Stops (TooMuchSent event bytes)) = codes "sent" ∷ decimal event ∷ decimal bytes ∷ []
