-- A node's script, line by line. P is a process that the node hosts.
--   P submit HEX     a payload in lower-case hexadecimal, or `-` where it has no bytes
--   P suspect Q      Q from 0 to 63
--   P join Q
--   P renew
--   P tick
--   P recv M         M from 1 to 1,000
--   snap
-- Each of these has at most 70,000 bytes. Another line that begins with P goes to the node's service, where it is UTF-8: what the service
-- reads is text.
-- Names here (* for this crate alone):
--   Said, Line, most_own_bytes, most_lines, payload_of, said_by, other_said, said_or_other, line_if_hosted, line_of_words, line_said
use Rattle.std.specs.Prelude.{ℕ, ◌/◌, ◌==◌, ◌&&◌, nat_le, if◌then◌else◌, List, [], ◌∷◌, length, Option, Some, None, option_map, codes}
use Rattle.std.specs.Option.{option_or}
use Rattle.std.specs.Str.{is_utf8}
use Rattle.byte_defs.specs.Choices.{and_then, first_that_holds}
use Rattle.byte_defs.specs.Equality.{same_bytes}
use Rattle.byte_defs.specs.Members.{has}
use Rattle.text_defs.specs.Words.{words_of, number_within, process_of, bytes_of}
use Rattle.journal_defs.specs.Entries.{Event, Submit, Suspect, Join, Renew, Tick}

-- what a line asks of its process
pub data Said : Type 0 where
  Hand : (event : Event) → Said
  Receive : (most : ℕ) → Said
  -- the service is asked
  Other : Said

-- what a line asks for
pub data Line : Type 0 where
  Of : (process : ℕ) (said : Said) → Line
  Snap : Line

-- how many bytes a line of the node's own words has at most
abbrev pub most_own_bytes : ℕ
most_own_bytes = 70000

-- how many lines a script has at most
unfoldable pub most_lines : ℕ
most_lines = 1000000

-- the bytes of a word in hexadecimal, any number of them; a dash where there are none
unfoldable pub payload_of : List ℕ → Option (List ℕ)
payload_of word = if same_bytes word (codes "-") then Some [] else (if length word == 0 then None else bytes_of (length word / 2) word)

-- what the words after the process say
unfoldable pub said_by : List (List ℕ) → Option Said
said_by (word ∷ []) = first_that_holds (
    (same_bytes word (codes "renew"), Hand Renew)
    ∷ (same_bytes word (codes "tick"), Hand Tick) ∷ [])
said_by (word ∷ arg ∷ []) =
    if same_bytes word (codes "submit") then option_map (λ payload. Hand (Submit payload)) (payload_of arg)
    else if same_bytes word (codes "suspect") then option_map (λ q. Hand (Suspect q)) (process_of arg)
    else if same_bytes word (codes "join") then option_map (λ q. Hand (Join q)) (process_of arg)
    else if same_bytes word (codes "recv") then option_map Receive (number_within 1 1000 arg)
    else None
said_by _ = None

-- for the service, which is handed no line that is not UTF-8
abbrev pub other_said : List ℕ → Option Said
other_said line = if is_utf8 line then Some Other else None

-- in the node's own words, or for the service
abbrev pub said_or_other : List ℕ → List (List ℕ) → Option Said
said_or_other line words = option_or (if nat_le (length line) most_own_bytes then said_by words else None) (other_said line)

-- a line of this process, where it is hosted
abbrev pub line_if_hosted : List ℕ → List ℕ → List (List ℕ) → ℕ → Option Line
line_if_hosted hosted line words p = if has hosted p then option_map (Of p) (said_or_other line words) else None

abbrev pub line_of_words : List ℕ → List ℕ → List (List ℕ) → Option Line
line_of_words hosted line [] = None
line_of_words hosted line (first ∷ words) = and_then (process_of first) (line_if_hosted hosted line words)

-- what the line asks for; none where the script has no such line, whatever the service
unfoldable pub line_said : List ℕ → List ℕ → Option Line
line_said hosted line =
    if same_bytes line (codes "snap") then Some Snap else line_of_words hosted line (words_of line)
