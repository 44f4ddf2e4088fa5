-- The lines of what came of an event at a process.
-- Names here (* for this crate alone):
--   of_process
--   refusals: frame_reason*, update_reason*, refusal_reason, refusal_line
--   what it heard, signed and sent: claims_word, heard_line, signed_line, frame_line, sent_line
--   what it reports: note_line
--   all of it: addressed*, Seen, seen, taken_lines*
use Rattle.std.specs.Prelude.{ℕ, Bool, ◌==◌, if◌then◌else◌, List, [], ◌∷◌, ◌++◌, length, map, Option, Some, None, codes}
use Rattle.std.specs.List.{flat_map, enumerate_from}
use Rattle.std.specs.Fmt.{decimal}
use Rattle.message_defs.specs.declared.FrameFault.{FrameFault}
use Rattle.message_defs.specs.declared.FrameFault.TheVariants as frames
use Rattle.message_defs.specs.Spelling.{spelling}
use Rattle.message_defs.specs.Statements.{Claim}
use Rattle.message_defs.specs.Packing.{Signed, signed_of}
use Rattle.group_defs.specs.Views.{View, UpdateFault, ViewsSpent, AlreadyMember, GroupFull, NotMember, LastMember}
use Rattle.group_defs.specs.Process.{Delivered}
use Rattle.group_defs.specs.Sending.{Sending, frames_of}
use Rattle.group_defs.specs.Events.{EventFault, HaltedNow, BadFrame, Outsider, TooLong, Backlog, NoKey, NoNext, Note, Delivers, Installs, Liar, Spent, Halts, Outcome}
use Rattle.replay_defs.specs.Reports.{refusal_word}
use Rattle.trace_defs.specs.Phrases.{Word, Line, number_and_colon, payload_words, message_word, process_words, spelled_words}

-- the line that says this of a process
abbrev pub of_process : ℕ → Line → Line
of_process p words = codes " " ∷ decimal p ∷ words

-- ---- refusals

-- what is wrong with bytes that are no frame
abbrev pub frame_reason : FrameFault → Word
frame_reason frames.Short = codes "the bytes end in the midst of a field"
frame_reason frames.Version = codes "the bytes begin with no version that is known"
frame_reason frames.Kind = codes "no frame is of this kind"
frame_reason frames.Count = codes "a frame has no such count"
frame_reason frames.Length = codes "a length is out of its range"
frame_reason frames.Unordered = codes "the signers do not rise"
frame_reason frames.Trailing = codes "more bytes follow behind the frame"
frame_reason frames.Statement = codes "what is signed is no statement"
frame_reason frames.Range = codes "a number is out of its range"
frame_reason frames.Misplaced = codes "a frame of this kind carries no such statement"

-- why no view follows
abbrev pub update_reason : UpdateFault → Word
update_reason ViewsSpent = codes "no number is left for a view"
update_reason AlreadyMember = codes "that process is a member already"
update_reason GroupFull = codes "the view has as many members as a view may have"
update_reason NotMember = codes "that process is no member"
update_reason LastMember = codes "no member would be left"

abbrev pub refusal_reason : EventFault → Word
refusal_reason (HaltedNow delivered cut) = codes "it has halted for good"
refusal_reason (BadFrame fault) = frame_reason fault
refusal_reason Outsider = codes "it is no member of its view"
refusal_reason TooLong = codes "a payload has at most 1024 bytes"
refusal_reason Backlog = codes "256 payloads wait to be delivered"
refusal_reason NoKey = codes "nobody has a key of that process"
refusal_reason (NoNext fault) = update_reason fault

-- what the process refuses, by the report's word, and why
abbrev pub refusal_line : ℕ → Line → EventFault → Line
refusal_line p what fault = of_process p
    (codes "refuses" ∷ what ++ (codes "as" ∷ refusal_word fault ∷ codes "since" ∷ refusal_reason fault ∷ []))

-- ---- what it heard, signed and sent

abbrev pub claims_word : ℕ → Word
claims_word n = if n == 1 then codes "new claim" else codes "new claims"

-- n claims were new to it, in a frame or in bytes
abbrev pub heard_line : ℕ → Line → ℕ → Line
heard_line p what n = of_process p (codes "hears" ∷ decimal n ∷ claims_word n ∷ codes "in" ∷ what)

-- the statement that it signed, by its bytes
abbrev pub signed_line : ℕ → Signed → Line
signed_line p c = of_process p (codes "signs" ∷ spelled_words c.statement)

-- the frame of this number, and to whom it goes
abbrev pub frame_line : ℕ → ℕ → List ℕ → Line
frame_line p frame to = of_process p (codes "sends frame" ∷ decimal frame ∷ codes "to" ∷ process_words to)

-- the number of a frame, and those to whom it goes
abbrev pub sent_line : ℕ → ℕ × List ℕ → Line
sent_line p frame = frame_line p frame.0 frame.1

-- ---- what it reports

abbrev pub note_line : ℕ → Note → Line
note_line p (Delivers x d) =
    of_process p (codes "delivers" ∷ message_word d.message ∷ codes "at place" ∷ decimal d.place ∷ codes "of view" ∷ number_and_colon x
    ∷ payload_words d.payload)
note_line p (Installs v) = of_process p (codes "installs view" ∷ number_and_colon v.number ∷ map decimal v.members)
note_line p (Liar q) = of_process p (codes "names" ∷ decimal q ∷ codes "a liar" ∷ [])
note_line p Spent = of_process p (codes "has no signature left for what is due" ∷ [])
note_line p (Halts delivered cut) =
    of_process p (codes "halts for good: places delivered" ∷ decimal delivered ∷ codes "of a view that is cut to" ∷ decimal cut ∷ [])

-- ---- all of it

-- of each frame of a sending, to whom it goes
abbrev pub addressed : Sending → List (List ℕ)
addressed out = map (λ bytes. out.to) (frames_of out.parcel)

-- what came of an event, as it is seen from outside: claims are as they are in a frame, and each frame that is sent comes with those
-- to whom it goes
pub record Seen : Type 0 where
  pub verdict : Option EventFault
  pub heard : ℕ
  pub signed : List Signed
  pub spent : Bool
  pub sends : List (List ℕ)
  pub notes : List Note

-- the outcome, seen from outside
abbrev pub seen : Outcome → Seen
seen o = record {
  verdict = o.verdict;
  heard = o.heard;
  signed = map signed_of o.signed;
  spent = o.spent;
  sends = flat_map addressed o.sends;
  notes = o.notes;
}

-- of an event that was taken: what process p signed, reported and sent, where its first frame gets this number
abbrev pub taken_lines : ℕ → ℕ → Seen → List Line
taken_lines p first o = map (signed_line p) o.signed ++ (map (note_line p) o.notes ++ map (sent_line p) (enumerate_from first o.sends))
