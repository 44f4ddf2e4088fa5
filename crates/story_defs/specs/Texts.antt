-- The text of a schedule, a line for each process and each event.
-- Names here (* for this crate alone):
--   tokens: Token, is_printable, quoted_byte, quoted_text, shown_bytes, shown, plain, number, numbers
--   statements: update_tokens, value_tokens, message_tokens, report_tokens, kind_tokens, worded, statement_read, statement_tokens
--   events: mask_tokens, drain_tokens*, lie_tokens*, about_tokens*, event_tokens
--   who takes part: role_word, plain_tokens, tree_tokens, key_tokens, listed_tokens, limit_tokens, group_tokens, genesis_tokens
--   the text: token_line, schedule_lines, schedule_text
use Rattle.std.specs.Prelude.{ℕ, ◌==◌, ◌&&◌, ◌||◌, not, nat_lt, nat_le, Bool, false, if◌then◌else◌, List, [], ◌∷◌, ◌++◌, length, map, Option, Some, None, codes, Result, Ok, Err}
use Rattle.std.specs.List.{flat_map, list_all}
use Rattle.std.specs.Fmt.{decimal}
use Rattle.byte_defs.specs.Equality.{same_bytes}
use Rattle.rp_base.specs.Pids.{members}
use Rattle.text_defs.specs.Words.{space, line_text, bytes_word}
use Rattle.signature_defs.specs.declared.OtsType.{OtsType}
use Rattle.signature_defs.specs.LmOts.{ots_typecode}
use Rattle.message_defs.specs.Updates.{Update, Remove, Add, Renew, Value}
use Rattle.message_defs.specs.Statements as kinds
use Rattle.message_defs.specs.Statements.{Message, Batch, Statement}
use Rattle.message_defs.specs.Reading.{statement_of}
use Rattle.message_defs.specs.declared.FrameFault.{FrameFault}
use Rattle.replay_defs.specs.Keys.{Key, Plain, Lms, Hss}
use Rattle.replay_defs.specs.Schedules as schedules
use Rattle.replay_defs.specs.Schedules.{Listed, ScheduleEvent, Submit, Raw, Pass, Drain, Lie, Suspect, Join, Header, Schedule}
use Rattle.story_defs.specs.PlainLines.{quote, backslash, is_escaped}
use Rattle.story_defs.specs.Words.{scheme_word, everyone}
use Rattle.story_defs.specs.Lines.{short_key}

-- ---- tokens

-- a word, or bytes
pub data Token : Type 0 where
  Word : (word : List ℕ) → Token
  Bytes : (bytes : List ℕ) → Token

-- a byte that a quoted text shows: printable ASCII
abbrev pub is_printable : ℕ → Bool
is_printable c = nat_le space c && nat_lt c 127

-- after a backslash, where it must be
abbrev pub quoted_byte : ℕ → List ℕ
quoted_byte c = if is_escaped c then backslash ∷ c ∷ [] else c ∷ []

abbrev pub quoted_text : List ℕ → List ℕ
quoted_text bytes = quote ∷ (flat_map quoted_byte bytes ++ quote ∷ [])

-- bytes are quoted, where all are printable, and else in hexadecimal
abbrev pub shown_bytes : List ℕ → List ℕ
shown_bytes bytes = if list_all is_printable bytes then quoted_text bytes else bytes_word bytes

-- a token as it is in a line
abbrev pub shown : Token → List ℕ
shown (Word word) = word
shown (Bytes bytes) = shown_bytes bytes

-- and in a plain line
abbrev pub plain : Token → List ℕ
plain (Word word) = word
plain (Bytes bytes) = bytes_word bytes

abbrev pub number : ℕ → Token
number n = Word (decimal n)

abbrev pub numbers : List ℕ → List Token
numbers ns = map number ns

-- ---- statements

abbrev pub update_tokens : Update → List Token
update_tokens (Remove p) = Word (codes "remove") ∷ number p ∷ []
update_tokens (Add p) = Word (codes "add") ∷ number p ∷ []
update_tokens Renew = Word (codes "renew") ∷ []

abbrev pub value_tokens : Value → List Token
value_tokens v = update_tokens v.update ++ number v.cut ∷ []

abbrev pub message_tokens : Message → List Token
message_tokens m = number m.sender ∷ number m.number ∷ []

abbrev pub report_tokens : Option (ℕ × Value) → List Token
report_tokens None = Word (codes "none") ∷ []
report_tokens (Some ready) = number ready.0 ∷ value_tokens ready.1

-- the view, where it is not 0, and the kind
abbrev pub kind_tokens : ℕ → List ℕ → List Token
kind_tokens view kind = if view == 0 then Word kind ∷ [] else Word (codes "in") ∷ number view ∷ Word kind ∷ []

abbrev pub worded : Statement → List Token
worded (kinds.Init x l payload) = kind_tokens x (codes "init") ++ number l ∷ Bytes payload ∷ []
worded (kinds.Echo x m payload) = kind_tokens x (codes "echo") ++ (message_tokens m ++ Bytes payload ∷ [])
worded (kinds.Order x k b) = kind_tokens x (codes "order") ++ number k ∷ flat_map message_tokens b
worded (kinds.Place x k b) = kind_tokens x (codes "place") ++ number k ∷ flat_map message_tokens b
worded (kinds.Keep x k b) = kind_tokens x (codes "keep") ++ number k ∷ flat_map message_tokens b
worded (kinds.Notify x u) = kind_tokens x (codes "notify") ++ update_tokens u
worded (kinds.End x k) = kind_tokens x (codes "end") ++ number k ∷ []
worded (kinds.Last x r ready) = kind_tokens x (codes "last") ++ number r ∷ report_tokens ready
worded (kinds.Suggest x r v) = kind_tokens x (codes "suggest") ++ number r ∷ value_tokens v
worded (kinds.Ack x r v) = kind_tokens x (codes "ack") ++ number r ∷ value_tokens v
worded (kinds.Ready x r v) = kind_tokens x (codes "ready") ++ number r ∷ value_tokens v

-- a statement in words; bytes that are none, as they are
abbrev pub statement_read : List ℕ → Result Statement FrameFault → List Token
statement_read bytes (Ok st) = worded st
statement_read bytes (Err fault) = Bytes bytes ∷ []

abbrev pub statement_tokens : List ℕ → List Token
statement_tokens bytes = statement_read bytes (statement_of bytes)

-- ---- events

-- all, nobody, or the processes of the mask
abbrev pub mask_tokens : ℕ → List Token
mask_tokens mask = if mask == everyone then Word (codes "all") ∷ []
    else (if mask == 0 then Word (codes "nobody") ∷ [] else numbers (members mask))

abbrev pub drain_tokens : ℕ → ℕ → List Token
drain_tokens count mask = Word (codes "drain") ∷ number count ∷ Word (codes "to") ∷ mask_tokens mask

abbrev pub lie_tokens : ℕ → ℕ → List ℕ → List Token
lie_tokens signer mask statement =
    Word (codes "lie") ∷ number signer ∷ Word (codes "to") ∷ (mask_tokens mask ++ Word (codes ":") ∷ statement_tokens statement)

-- of a Suspect or a Join
abbrev pub about_tokens : List ℕ → ℕ → ℕ → List Token
about_tokens word at other = Word word ∷ number at ∷ Word (codes "of") ∷ number other ∷ []

abbrev pub event_tokens : ScheduleEvent → List Token
event_tokens (Submit at payload) = Word (codes "submit") ∷ number at ∷ Bytes payload ∷ []
event_tokens (Raw to from bytes) = Word (codes "raw") ∷ number to ∷ Word (codes "from") ∷ number from ∷ Bytes bytes ∷ []
event_tokens (Pass frame to) = Word (codes "pass") ∷ number frame ∷ Word (codes "to") ∷ number to ∷ []
event_tokens (Drain count mask) = drain_tokens count mask
event_tokens (Lie signer mask statement) = lie_tokens signer mask statement
event_tokens (Suspect at other) = about_tokens (codes "suspect") at other
event_tokens (Join at other) = about_tokens (codes "join") at other
event_tokens (schedules.Renew at) = Word (codes "renew") ∷ number at ∷ []
event_tokens (schedules.Tick at) = Word (codes "tick") ∷ number at ∷ []

-- ---- who takes part

abbrev pub role_word : Bool → List ℕ
role_word corrupt = if corrupt then codes "corrupt" else codes "correct"

-- a plain key of 32 bytes of its process's number is not written
abbrev pub plain_tokens : ℕ → List ℕ → List Token
plain_tokens p key = if same_bytes key (short_key p) then [] else Bytes key ∷ []

-- the parameters of a tree
abbrev pub tree_tokens : ℕ → OtsType → List ℕ → List ℕ → List Token
tree_tokens code kind id seed = number code ∷ number (ots_typecode kind) ∷ Bytes id ∷ Bytes seed ∷ []

-- the scheme's word, and the key of process p
abbrev pub key_tokens : ℕ → Key → List Token
key_tokens p (Plain key total) = Word (codes "plain") ∷ (plain_tokens p key ++ number total ∷ [])
key_tokens p (Lms code kind id seed) = Word (codes "lms") ∷ tree_tokens code kind id seed
key_tokens p (Hss levels code kind id seed) = Word (codes "hss") ∷ number levels ∷ tree_tokens code kind id seed

abbrev pub listed_tokens : Listed → List Token
listed_tokens l = Word (codes "process") ∷ number l.process ∷ Word (role_word l.corrupt) ∷ key_tokens l.process l.key

-- where it is not 1
abbrev pub limit_tokens : ℕ → List Token
limit_tokens limit = if limit == 1 then [] else Word (codes "batch") ∷ number limit ∷ []

abbrev pub group_tokens : Header → List Token
group_tokens h = Word (codes "group") ∷ Bytes h.group ∷ Word (scheme_word h.scheme) ∷ limit_tokens h.batch_limit

abbrev pub genesis_tokens : List ℕ → List Token
genesis_tokens members = Word (codes "genesis") ∷ numbers members

-- ---- the text

-- a line of these tokens, with its line feed
abbrev pub token_line : List Token → List ℕ
token_line tokens = line_text (map shown tokens)

-- the lines of a schedule
abbrev pub schedule_lines : Schedule → List (List Token)
schedule_lines s =
    group_tokens s.header ∷ (map listed_tokens s.header.processes ++ (genesis_tokens s.header.genesis ∷ map event_tokens s.events))

-- the text of a schedule
unfoldable pub schedule_text : Schedule → List ℕ
schedule_text s = flat_map token_line (schedule_lines s)
