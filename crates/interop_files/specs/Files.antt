-- Questions on kits and schedules: how they are spelled, and what is answered.
-- Names here (* for this crate alone):
--   kit_fault_words*, kit_said*, schedule_fault_words*, schedule_said*
--   the questions: Question, IsQuestion*, spelled, answer_to*, Answers
use Rattle.std.specs.Prelude.{◌≡◌, ℕ, List, [], ◌∷◌, ◌++◌, codes, Result, Ok, Err}
use Rattle.std.specs.Fmt.{decimal}
use Rattle.hex.specs.Hex.{IsBytes, encode_lower}
use Rattle.kit_defs.specs.Kits.{Kit, kit_text}
use Rattle.kit_defs.specs.KitReading.{KitFault, Line, Repeated, Missing, KeyMismatch, kit_of}
use Rattle.replay_defs.specs.declared.Fault.{Fault}
use Rattle.replay_defs.specs.Schedules.{Schedule, schedule_bytes}
use Rattle.replay_defs.specs.Reading.{schedule_of}
use Rattle.replay_defs.specs.Reports.{schedule_word}
use Rattle.text_defs.specs.Words.{bytes_word}

-- ---- kits

-- what is wrong, and the number of the line, counted from 1; with a key that does not match, the public key that the
-- secret makes and the one of the key line
abbrev pub kit_fault_words : KitFault → List ℕ
kit_fault_words (Line line) = codes "line " ++ decimal line
kit_fault_words (Repeated line) = codes "repeated " ++ decimal line
kit_fault_words (Missing line) = codes "missing " ++ decimal line
kit_fault_words (KeyMismatch line made listed) =
    codes "mismatch " ++ (decimal line ++ (codes " " ++ (encode_lower made ++ (codes " " ++ encode_lower listed))))

-- `kit` and the kit spelled again, or its fault
abbrev pub kit_said : Result Kit KitFault → List ℕ
kit_said (Ok kit) = codes "kit " ++ encode_lower (kit_text kit)
kit_said (Err fault) = kit_fault_words fault

-- ---- schedules

-- what is wrong, and how many bytes come before it
abbrev pub schedule_fault_words : Fault → List ℕ
schedule_fault_words fault = schedule_word fault.kind ++ (codes " " ++ decimal fault.place)

-- `schedule` and the schedule spelled again, or its fault
abbrev pub schedule_said : Result Schedule Fault → List ℕ
schedule_said (Ok s) = codes "schedule " ++ encode_lower (schedule_bytes s)
schedule_said (Err fault) = schedule_fault_words fault

-- ---- the questions

pub data Question : Type 0 where
  -- what the bytes say as the text of a kit
  OfKit : (bytes : List ℕ) → Question
  -- and as a schedule
  OfSchedule : (bytes : List ℕ) → Question

abbrev pub IsQuestion : Question → Type 0
IsQuestion (OfKit bytes) = IsBytes bytes
IsQuestion (OfSchedule bytes) = IsBytes bytes

-- `kit HEX` and `schedule HEX`
abbrev pub spelled : Question → List (List ℕ)
spelled (OfKit bytes) = codes "kit" ∷ bytes_word bytes ∷ []
spelled (OfSchedule bytes) = codes "schedule" ∷ bytes_word bytes ∷ []

abbrev pub answer_to : Question → List ℕ
answer_to (OfKit bytes) = kit_said (kit_of bytes)
answer_to (OfSchedule bytes) = schedule_said (schedule_of bytes)

-- the words are those of a question on a kit or a schedule, and this is what is answered
pub record Answers (words : List (List ℕ)) (reported : List ℕ) : Type 0 where
  pub question : Question
  pub fits : IsQuestion question
  pub asked : words ≡ spelled question
  pub reported_is : reported ≡ answer_to question
