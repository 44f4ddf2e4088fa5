-- Questions on what a pool hears, and whom claims convict: how they are spelled, and what is answered.
use Rattle.std.specs.Prelude.{◌≡◌, ◌⊎◌, ℕ, ◌≤◌, List, [], ◌∷◌, ◌++◌, codes, Result, Ok, Err}
use Rattle.std.specs.List.{flat_map}
use Rattle.std.specs.Fmt.{decimal}
use Rattle.hex.specs.Hex.{IsBytes}
use Rattle.byte_defs.specs.Fields.{◌>>=◌}
use Rattle.message_defs.specs.declared.FrameFault.{FrameFault}
use Rattle.message_defs.specs.Statements.{Claim}
use Rattle.message_defs.specs.Frames.{frame_of}
use Rattle.message_defs.specs.Claims.{claims_of}
use Rattle.group_defs.specs.Views.{View}
use Rattle.conviction_defs.specs.Convictions.{convicted}
use Rattle.text_defs.specs.Words.{bytes_word}
use Rattle.view_table.specs.Views.{as_view}
use Rattle.interop_frames.specs.Frames.{fault_word}
use Rattle.interop_pool.specs.Hearers.{IsHearer, hearer, setting}
use Rattle.interop_pool.specs.Telling.{heard_words, signer_word}

-- the claims of a frame's bytes, or the first fault
abbrev pub claims_in : List ℕ → Result (List Claim) FrameFault
claims_in bytes = frame_of bytes >>= claims_of

-- what is heard of the claims, or the word of the fault
abbrev pub said : View → List ℕ → Result (List Claim) FrameFault → List ℕ
said v counts (Ok claims) = heard_words (hearer v counts) claims
said v counts (Err fault) = fault_word fault

-- what a process that has delivered `counts` of the messages of each member hears of the frame in this view; or `noview`
abbrev pub SaysOfPool : ℕ → List ℕ → List ℕ → List ℕ → List ℕ → Type 0
SaysOfPool number members counts frame reported =
    (IsHearer number members counts × (reported ≡ said (as_view number members) counts (claims_in frame)))
    ⊎ ((¬ IsHearer number members counts) × (reported ≡ codes "noview"))

-- `convicted` and each whom the claims convict, by rising number, or the word of the fault
abbrev pub convicted_words : Result (List Claim) FrameFault → List ℕ
convicted_words (Ok claims) = codes "convicted" ++ flat_map signer_word (convicted setting claims)
convicted_words (Err fault) = fault_word fault

-- ---- the questions

pub data Question : Type 0 where
  -- what is heard of a frame, in the view of this number and these members, after `counts` deliveries of each
  OfPool : (number : ℕ) (members counts frame : List ℕ) → Question
  -- whom the claims of a frame convict
  OfConvicted : (frame : List ℕ) → Question

abbrev pub IsQuestion : Question → Type 0
IsQuestion (OfPool number members counts frame) = (number ≤ 1023) × IsBytes members × IsBytes counts × IsBytes frame
IsQuestion (OfConvicted frame) = IsBytes frame

-- `pool VIEW MEMBERS COUNTS FRAME` and `convicted FRAME`
abbrev pub spelled : Question → List (List ℕ)
spelled (OfPool number members counts frame) =
    codes "pool" ∷ decimal number ∷ bytes_word members ∷ bytes_word counts ∷ bytes_word frame ∷ []
spelled (OfConvicted frame) = codes "convicted" ∷ bytes_word frame ∷ []

abbrev pub IsAnswerTo : Question → List ℕ → Type 0
IsAnswerTo (OfPool number members counts frame) reported = SaysOfPool number members counts frame reported
IsAnswerTo (OfConvicted frame) reported = reported ≡ convicted_words (claims_in frame)

-- the words are those of a question on a pool or on convictions, and this is what is answered
pub record Answers (words : List (List ℕ)) (reported : List ℕ) : Type 0 where
  pub question : Question
  pub fits : IsQuestion question
  pub asked : words ≡ spelled question
  pub is_reported : IsAnswerTo question reported
