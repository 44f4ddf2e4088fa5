-- Which lines of those that nodes wrote `ask` is to read, and what they say. A line of more than 70,000 bytes says nothing, as `ask` reads
-- none; and so does a line of any other form.
-- Names here (* for this crate alone):
--   what a line says: said_words*, key_said, named_view*, view_said, reply_in, reply_said
--   which lines are taken: Lines, with_process*, key_lines, first_line, says_view, last_view, first_view, view_line, is_reply, question_lines
--   what they ask: first_key, view_of, question_of
use Rattle.std.specs.Prelude.{ℕ, ◌==◌, nat_lt, if◌then◌else◌, Bool, List, [], ◌∷◌, ◌++◌, length, map, filter, find, reverse, codes, filter_map, Option, Some, None, is_some, option_map}
use Rattle.std.specs.List.{join_with_byte}
use Rattle.std.specs.Option.{unwrap_or}
use Rattle.std.specs.Fmt.{decimal}
use Rattle.byte_defs.specs.Choices.{and_then}
use Rattle.byte_defs.specs.Equality.{same_bytes}
use Rattle.group_defs.specs.Views.{View}
use Rattle.text_defs.specs.Words.{space, words_of}
use Rattle.kit_defs.specs.Kits.{Kit, roster_of}
use Rattle.kit_defs.specs.KitReading.{most_line_bytes}
use Rattle.store_defs.specs.Records.{Reply}
use Rattle.store_defs.specs.Services.{behind_first}
use Rattle.store_defs.specs.Asking.{Question, is_view, key_in, named_key, reply_by, view_by}

-- ---- what a line says

-- its words, and none where it is too long
abbrev pub said_words : List ℕ → List (List ℕ)
said_words line = if nat_lt most_line_bytes (length line) then [] else words_of line

-- the reply key of a process of the roster: replykey P HEX
abbrev pub key_said : Kit → List ℕ → Option (ℕ × List ℕ)
key_said kit line = named_key kit.scheme (roster_of kit.keys) [] (said_words line)

abbrev pub named_view : List (List ℕ) → Option View
named_view words = if is_view words then view_by (behind_first words) else None

-- a view: view X : M M M
abbrev pub view_said : List ℕ → Option View
view_said line = named_view (said_words line)

-- a reply of a process: reply P HEX
abbrev pub reply_in : List ℕ → Option Reply
reply_in line = reply_by (said_words line)

-- one to this payload
abbrev pub reply_said : List ℕ → List ℕ → Option Reply
reply_said payload line = and_then (reply_in line) (λ r. if same_bytes r.payload payload then Some r else None)

-- ---- which lines are taken

abbrev pub Lines : Type 0
Lines = List (List ℕ)

-- a line that says a reply key, after the process
abbrev pub with_process : Kit → List ℕ → Option (ℕ × List ℕ)
with_process kit line = option_map (λ k. (k.0, line)) (key_said kit line)

-- all of them
abbrev pub key_lines : Kit → Lines → List (ℕ × List ℕ)
key_lines kit lines = filter_map (with_process kit) lines

-- the first one of a process
abbrev pub first_line : Kit → Lines → ℕ → Option (List ℕ)
first_line kit lines p = key_in (key_lines kit lines) p

abbrev pub says_view : List ℕ → Bool
says_view line = is_some (view_said line)

-- the last line that says a view
abbrev pub last_view : Lines → Option (List ℕ)
last_view lines = find says_view (reverse lines)

-- the line of a kit's first view
abbrev pub first_view : Kit → List ℕ
first_view kit = join_with_byte space (codes "view" ∷ decimal 0 ∷ codes ":" ∷ map decimal kit.genesis)

-- the line of the view that is asked
abbrev pub view_line : Kit → Lines → List ℕ
view_line kit lines = unwrap_or (last_view lines) (first_view kit)

abbrev pub is_reply : List ℕ → List ℕ → Bool
is_reply payload line = is_some (reply_said payload line)

-- The lines that `ask` is to read after the kit: the first reply key of each process, by rising numbers as the roster has them; the view; and
-- all replies to the payload, in their order.
abbrev pub question_lines : Kit → List ℕ → Lines → Lines
question_lines kit payload lines =
    filter_map (first_line kit lines) (roster_of kit.keys) ++ view_line kit lines ∷ filter (is_reply payload) lines

-- ---- what they ask

-- the first reply key that lines say of a process
abbrev pub first_key : Kit → Lines → ℕ → Option (List ℕ)
first_key kit lines p = key_in (filter_map (key_said kit) lines) p

-- the view that the last line of a view says, or the kit's first one
abbrev pub view_of : Kit → Lines → View
view_of kit lines = unwrap_or (and_then (last_view lines) view_said) (record { number = 0; members = kit.genesis })

-- these keys, this view, and these replies
abbrev pub question_of : Kit → List ℕ → Lines → Question
question_of kit payload lines = record {
  keys = filter_map (λ p. option_map (λ key. (p, key)) (first_key kit lines p)) (roster_of kit.keys);
  view = view_of kit lines;
  replies = filter_map (reply_said payload) lines;
}
