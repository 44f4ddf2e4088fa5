-- The line of an event, which says what the schedule lets happen, and those of who takes part.
use Rattle.std.specs.Prelude.{ℕ, if◌then◌else◌, List, [], ◌∷◌, ◌++◌, length, map, codes}
use Rattle.std.specs.Fmt.{decimal}
use Rattle.rp_base.specs.Pids.{members}
use Rattle.replay_defs.specs.Schedules.{Listed, ScheduleEvent, Submit, Raw, Pass, Drain, Lie, Suspect, Join, Renew, Tick, Header}
use Rattle.replay_defs.specs.Worlds.{WorldFault, NoSuchFrame, TooMuchSent}
use Rattle.trace_defs.specs.Phrases.{Line, number_and_colon, payload_words, process_words}

-- what the schedule lets happen
abbrev pub event_words : ScheduleEvent → Line
event_words (Submit p payload) = decimal p ∷ codes "is asked to send" ∷ payload_words payload
event_words (Raw to from bytes) = decimal (length bytes) ∷ codes "bytes are handed to" ∷ decimal to ∷ codes "as a frame of" ∷ decimal from
    ∷ []
event_words (Pass frame to) = codes "frame" ∷ decimal frame ∷ codes "is handed to" ∷ decimal to ∷ []
event_words (Drain count mask) = codes "up to" ∷ decimal count ∷ codes "deliveries are made to" ∷ process_words (members mask)
event_words (Lie signer mask statement) = decimal signer ∷ codes "lies to" ∷ process_words (members mask)
event_words (Suspect p q) = decimal p ∷ codes "is told to have" ∷ decimal q ∷ codes "removed" ∷ []
event_words (Join p q) = decimal p ∷ codes "is told to have" ∷ decimal q ∷ codes "added" ∷ []
event_words (Renew p) = decimal p ∷ codes "is told to have a next view" ∷ []
event_words (Tick p) = codes "time passes for" ∷ decimal p ∷ []

-- the event of this number
abbrev pub event_line : ℕ → ScheduleEvent → Line
event_line n e = codes "event" ∷ number_and_colon n ∷ event_words e

-- a process, and its role
abbrev pub role_line : Listed → Line
role_line l = codes "process" ∷ number_and_colon l.process ∷ (if l.corrupt then codes "corrupt" else codes "correct") ∷ []

-- the members of view 0, in rank order
abbrev pub genesis_line : List ℕ → Line
genesis_line members = codes "view 0:" ∷ map decimal members

-- who takes part
abbrev pub cast_lines : Header → List Line
cast_lines h = map role_line h.processes ++ genesis_line h.genesis ∷ []

-- why a run stops at an event
abbrev pub fault_line : WorldFault → Line
fault_line (NoSuchFrame event frame sent) =
    codes " " ∷ codes "the run stops here: frame" ∷ decimal frame ∷ codes "is not sent yet; frames sent so far:" ∷ decimal sent ∷ []
fault_line (TooMuchSent event bytes) =
    codes " " ∷ codes "the run stops here: all frames may have 1073741824 bytes, and with the next they have" ∷ decimal bytes ∷ []
