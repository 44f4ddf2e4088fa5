-- What holds of the input of `ask` that is made of lines.
-- Names here (* for this crate alone):
--   AsksWithLines, QuestionIsAsked*, AnswerIsOfAll*
use Rattle.std.specs.Prelude.{◌≡◌, ℕ, List, ◌++◌, filter_map, Ok}
use Rattle.signature_defs.specs.Schemes.{is_valid}
use Rattle.text_defs.specs.Words.{parts_of}
use Rattle.kit_defs.specs.Kits.{Kit}
use Rattle.input_defs.specs.Fronts.{Front, front_of, front_text}
use Rattle.store_defs.specs.Votes.{accepted, new_vote, vote_after}
use Rattle.store_defs.specs.Asking.{answered, asked, most_replies}
use Rattle.store_question_defs.specs.Lines.{Lines, first_key, question_of, reply_in, view_of}
use Rattle.store_question_defs.specs.Inputs.{ask_input, ask_text, lines_from}

-- The input begins with a kit, as it is spelled, and the lines after it are these; the text is the kit and the lines that ask, and what `ask` reads
-- in it is the question that the lines make.
pub record AsksWithLines (payload input text : List ℕ) : Type 0 where
  pub front : Front
  pub lines : Lines
  pub kit_is : front_of input ≡ Ok front
  pub spelled : input ≡ front_text front.kit ++ front.rest
  pub lines_are : lines_from payload front.line most_replies (parts_of front.rest) ≡ Ok lines
  pub text_is : text ≡ ask_text front.kit payload lines
  pub asks : asked text ≡ Ok (front.kit, question_of front.kit payload lines)

-- what is made of an input asks with its lines
abbrev pub QuestionIsAsked : Type 0
QuestionIsAsked = (payload input text : List ℕ) → ask_input payload input ≡ Ok text → AsksWithLines payload input text

-- the answer to this question is what all replies in the lines say, each under the first key of its signer: those to other payloads count
-- for nothing
abbrev pub AnswerIsOfAll : Type 0
AnswerIsOfAll = (kit : Kit) (payload : List ℕ) (lines : Lines)
    → answered kit payload (question_of kit payload lines)
    ≡ accepted (vote_after (is_valid kit.scheme) kit.group (first_key kit lines) (new_vote (view_of kit lines) payload) (filter_map reply_in lines))
