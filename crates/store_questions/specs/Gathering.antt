-- What is gathered of lines, one after the other.
-- Names here (* for this crate alone):
--   PlainGathered*, nothing_gathered*, with_key*, with_view*, with_reply*, is_too_many*, with_line*, after_lines*, gathered_text*
use Rattle.std.specs.Prelude.{ℕ, ◌-◌, ◌==◌, ◌&&◌, if◌then◌else◌, Bool, List, [], ◌∷◌, ◌++◌, filter_map, Option, Some, None, option_to_list}
use Rattle.std.specs.Option.{unwrap_or}
use Rattle.text_defs.specs.Words.{line_feed}
use Rattle.kit_defs.specs.Kits.{Kit, roster_of}
use Rattle.input_defs.specs.Fronts.{front_text}
use Rattle.store_defs.specs.Asking.{key_in, most_replies}
use Rattle.store_question_defs.specs.Lines.{Lines, first_view, is_reply, says_view, with_process}
use Rattle.store_question_defs.specs.Inputs.{text_of}

-- the lines that say reply keys, each after its process; the last line that says a view; the lines of replies; and how many may still come
pub record PlainGathered : Type 0 where
  pub keys : List (ℕ × List ℕ)
  pub view : Option (List ℕ)
  pub replies : List ℕ
  pub left : ℕ

abbrev pub nothing_gathered : PlainGathered
nothing_gathered = record { keys = []; view = None; replies = []; left = most_replies }

-- with a line, by what it says
abbrev pub with_key : Kit → List ℕ → PlainGathered → PlainGathered
with_key kit line g = record g { keys = g.keys ++ option_to_list (with_process kit line) }

abbrev pub with_view : List ℕ → PlainGathered → PlainGathered
with_view line g = record g { view = if says_view line then Some line else g.view }

abbrev pub with_reply : List ℕ → List ℕ → PlainGathered → PlainGathered
with_reply payload line g = record g {
  replies = if is_reply payload line then g.replies ++ (line ++ line_feed ∷ []) else g.replies;
  left = if is_reply payload line then g.left - 1 else g.left;
}

-- it says a reply, and none may come
abbrev pub is_too_many : List ℕ → List ℕ → PlainGathered → Bool
is_too_many payload line g = is_reply payload line && (g.left == 0)

abbrev pub with_line : Kit → List ℕ → PlainGathered → List ℕ → PlainGathered
with_line kit payload g line = with_reply payload line (with_view line (with_key kit line g))

-- with these lines
unfoldable pub after_lines : Kit → List ℕ → PlainGathered → Lines → PlainGathered
after_lines kit payload g [] = g
after_lines kit payload g (line ∷ lines) = after_lines kit payload (with_line kit payload g line) lines

-- the kit, and the lines that ask
abbrev pub gathered_text : Kit → PlainGathered → List ℕ
gathered_text kit g = front_text kit
    ++ (text_of (filter_map (key_in g.keys) (roster_of kit.keys)) ++ ((unwrap_or g.view (first_view kit) ++ line_feed ∷ []) ++ g.replies))
