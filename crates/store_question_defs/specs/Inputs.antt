-- The input of `ask` for a payload, made of a whole input: a kit and the line `go`, and then lines that nodes wrote, each of at most 8,388,608
-- bytes. A line that is longer, one that no line feed ends, and the 1,025th reply to the payload are faults of their lines, as are those of a
-- kit.
-- Names here (* for this crate alone):
--   text_of, ask_text, lines_from, ask_input
use Rattle.std.specs.Prelude.{ℕ, ◌+◌, ◌-◌, ◌==◌, ◌&&◌, ◌||◌, nat_lt, if◌then◌else◌, List, [], ◌∷◌, ◌++◌, flat_map, length, Result, Ok, Err}
use Rattle.byte_defs.specs.Fields.{◌>>=◌, refuse_if}
use Rattle.text_defs.specs.Words.{line_feed, parts_of}
use Rattle.kit_defs.specs.Kits.{Kit}
use Rattle.kit_defs.specs.KitReading.{KitFault, Line}
use Rattle.input_defs.specs.Fronts.{front_of, front_text}
use Rattle.store_defs.specs.Words.{most_state_line_bytes}
use Rattle.store_defs.specs.Asking.{most_replies}
use Rattle.store_question_defs.specs.Lines.{Lines, is_reply, question_lines}

-- lines as they are written
abbrev pub text_of : Lines → List ℕ
text_of lines = flat_map (λ line. line ++ line_feed ∷ []) lines

-- the kit, and the lines that ask
abbrev pub ask_text : Kit → List ℕ → Lines → List ℕ
ask_text kit payload lines = front_text kit ++ text_of (question_lines kit payload lines)

-- the lines from the one of this number on, where so many replies to the payload may still come
unfoldable pub lines_from : List ℕ → ℕ → ℕ → Lines → Result Lines KitFault
lines_from payload n left [] = Err (Line n)
lines_from payload n left (rest ∷ []) = if length rest == 0 then Ok [] else Err (Line n)
lines_from payload n left (line ∷ next ∷ more) = do
  _ ← refuse_if (nat_lt most_state_line_bytes (length line) || (is_reply payload line && (left == 0))) (Line n)
  others ← lines_from payload (n + 1) (if is_reply payload line then left - 1 else left) (next ∷ more)
  Ok (line ∷ others)

-- what is made of an input
unfoldable pub ask_input : List ℕ → List ℕ → Result (List ℕ) KitFault
ask_input payload input = do
  front ← front_of input
  lines ← lines_from payload front.line most_replies (parts_of front.rest)
  Ok (ask_text front.kit payload lines)
