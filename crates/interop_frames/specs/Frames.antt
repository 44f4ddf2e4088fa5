-- Questions on frames and statements: how they are spelled, and what is answered.
-- Names here (* for this crate alone):
--   fault_word, claim_words*, said*, said_by*, frame_answer*, read_by*, statement_answer*
--   the questions: Question*, IsQuestion*, spelled*, answer_to*, Answers*
use Rattle.std.specs.Prelude.{◌≡◌, ℕ, List, [], ◌∷◌, ◌++◌, codes, Result, Ok, Err}
use Rattle.std.specs.List.{flat_map}
use Rattle.std.specs.Fmt.{decimal}
use Rattle.hex.specs.Hex.{IsBytes}
use Rattle.message_defs.specs.declared.FrameFault.{FrameFault}
use Rattle.message_defs.specs.declared.FrameFault.TheVariants.{Short, Version, Kind, Count, Length, Unordered, Trailing, Statement as NoStatement, Range, Misplaced}
use Rattle.message_defs.specs.Statements.{Statement, Claim}
use Rattle.message_defs.specs.Spelling.{spelling}
use Rattle.message_defs.specs.Reading.{statement_of}
use Rattle.message_defs.specs.Frames.{FrameView, Bundle, Proof, Want, frame_of}
use Rattle.message_defs.specs.Claims.{claims_of}
use Rattle.text_defs.specs.Words.{bytes_word}

abbrev pub fault_word : FrameFault → List ℕ
fault_word Short = codes "short"
fault_word Version = codes "version"
fault_word Kind = codes "kind"
fault_word Count = codes "count"
fault_word Length = codes "length"
fault_word Unordered = codes "unordered"
fault_word Trailing = codes "trailing"
fault_word NoStatement = codes "statement"
fault_word Range = codes "range"
fault_word Misplaced = codes "misplaced"

-- `SIGNER STATEMENT SIGNATURE`, each after a space
abbrev pub claim_words : Claim → List ℕ
claim_words c = codes " " ++ (decimal c.signer
    ++ (codes " " ++ (bytes_word (spelling c.statement) ++ (codes " " ++ bytes_word c.signature))))

-- `bundle` or `proof` and the claims, or `want VIEW PLACE`, where the claims have no fault
abbrev pub said : FrameView → Result (List Claim) FrameFault → List ℕ
said f (Err fault) = fault_word fault
said (Bundle gs) (Ok claims) = codes "bundle" ++ flat_map claim_words claims
said (Proof gs) (Ok claims) = codes "proof" ++ flat_map claim_words claims
said (Want view place) (Ok claims) = codes "want " ++ (decimal view ++ (codes " " ++ decimal place))

abbrev pub said_by : Result FrameView FrameFault → List ℕ
said_by (Err fault) = fault_word fault
said_by (Ok f) = said f (claims_of f)

-- the word of the bytes' fault, or what the frame says that they spell
abbrev pub frame_answer : List ℕ → List ℕ
frame_answer bytes = said_by (frame_of bytes)

abbrev pub read_by : Result Statement FrameFault → List ℕ
read_by (Err fault) = fault_word fault
read_by (Ok st) = codes "ok " ++ bytes_word (spelling st)

-- the word of the bytes' fault, or `ok` and the statement spelled from what was read
abbrev pub statement_answer : List ℕ → List ℕ
statement_answer bytes = read_by (statement_of bytes)

-- ---- the questions

pub data Question : Type 0 where
  -- what the bytes say as a frame
  OfFrame : (bytes : List ℕ) → Question
  -- and as a statement
  OfStatement : (bytes : List ℕ) → Question

abbrev pub IsQuestion : Question → Type 0
IsQuestion (OfFrame bytes) = IsBytes bytes
IsQuestion (OfStatement bytes) = IsBytes bytes

-- `frame HEX` and `statement HEX`
abbrev pub spelled : Question → List (List ℕ)
spelled (OfFrame bytes) = codes "frame" ∷ bytes_word bytes ∷ []
spelled (OfStatement bytes) = codes "statement" ∷ bytes_word bytes ∷ []

abbrev pub answer_to : Question → List ℕ
answer_to (OfFrame bytes) = frame_answer bytes
answer_to (OfStatement bytes) = statement_answer bytes

-- the words are those of a question on a frame or a statement, and this is what is answered
pub record Answers (words : List (List ℕ)) (reported : List ℕ) : Type 0 where
  pub question : Question
  pub fits : IsQuestion question
  pub asked : words ≡ spelled question
  pub reported_is : reported ≡ answer_to question
