-- What the lines after a kit say, one by one.
-- Names here (* for this crate alone):
--   before the replies: PlainSaid*, said*, with_key*, said_by*, IsNext*, are_below*, key_above*, IsAbove*, only_word*
--   replies: reported_behind*, reported_by*, reported*, reply_in*, voted*, vote_with*, line_voted*
use Rattle.std.specs.Prelude.{◌≡◌, ℕ, Bool, true, List, [], ◌∷◌, ◌++◌, ◌<◌, ◌==◌, ◌&&◌, nat_lt, nat_le, if◌then◌else◌, length, codes, All, Option, Some, None, option_map, Result, Ok, Err}
use Rattle.std.specs.Option.{ok_or}
use Rattle.std.specs.Result.{result_ok}
use Rattle.std.specs.List.{list_all}
use Rattle.byte_defs.specs.Choices.{and_then}
use Rattle.byte_defs.specs.Equality.{same_bytes}
use Rattle.byte_defs.specs.Fields.{◌>>=◌}
use Rattle.signature_defs.specs.Schemes.{Scheme, is_valid}
use Rattle.message_defs.specs.Limits.{most_members}
use Rattle.group_defs.specs.Views as groups
use Rattle.text_defs.specs.Words.{bytes_of, words_of, process_of}
use Rattle.kit_defs.specs.Kits.{Kit, key_length}
use Rattle.kit_defs.specs.KitReading.{KitFault, Line, members_by}
use Rattle.sig_scheme.specs.Keys.{key_bytes}
use Rattle.store_defs.specs.Records.{Reply, reply_of}
use Rattle.store_defs.specs.Votes.{Vote, offered}
use Rattle.store_defs.specs.Words.{listed_process, some_bytes_of}
use Rattle.store_defs.specs.Services.{behind_first}
use Rattle.store_defs.specs.Asking.{is_view, key_in, named_key, reply_by, view_by}
use Rattle.store_asking.specs.declared.said.Said.{Said}
use Rattle.store_asking.specs.declared.said.Said.TheVariants as variants
use Rattle.store_asking.specs.declared.replies.Reported.{Reported}

-- ---- before the replies

-- a reply key of a process, or the view
pub data PlainSaid : Type 0 where
  Key : (process : ℕ) (key : List ℕ) → PlainSaid
  Of : (view : groups.View) → PlainSaid

abbrev pub said : Said → PlainSaid
said (variants.ReplyKey process key) = Key process (key_bytes key)
said (variants.Of view) = Of view

-- a process with its key
abbrev pub with_key : ℕ × List ℕ → PlainSaid
with_key k = Key k.0 k.1

-- what the words of a line say, where these reply keys were given before
abbrev pub said_by : Scheme → List ℕ → List (ℕ × List ℕ) → List (List ℕ) → Option PlainSaid
said_by scheme roster keys words =
    if is_view words then option_map Of (view_by (behind_first words)) else option_map with_key (named_key scheme roster keys words)

-- a reply key comes after those of lower processes
abbrev pub IsNext : List (ℕ × List ℕ) → PlainSaid → Type 0
IsNext keys (Key process key) = All (λ k. k.0 < process) keys
IsNext keys (Of view) = Unit {0}

-- each process that has a key is below this one
abbrev pub are_below : List ℕ → ℕ → Bool
are_below ps p = list_all (λ q. nat_lt q p) ps

-- a process with its key, above all of these: the words after `replykey`
abbrev pub key_above : Scheme → List ℕ → List ℕ → List (List ℕ) → Option (ℕ × List ℕ)
key_above scheme roster reported (process ∷ key ∷ []) =
    and_then (listed_process roster process) (λ p.
    if are_below reported p then option_map (λ k. (p, k)) (bytes_of (key_length scheme) key) else None)
key_above scheme roster reported _ = None

-- a reply key is of a process above these
abbrev pub IsAbove : List ℕ → PlainSaid → Type 0
IsAbove reported (Key process key) = are_below reported process ≡ true
IsAbove reported (Of view) = Unit {0}

-- the only word, where there is just one
abbrev pub only_word : List (List ℕ) → Option (List ℕ)
only_word (word ∷ []) = Some word
only_word _ = None

-- ---- replies

-- the process and the bytes that the words after `reply` name
abbrev pub reported_behind : List (List ℕ) → Option (ℕ × List ℕ)
reported_behind (process ∷ word ∷ []) = and_then (process_of process) (λ p. option_map (λ bytes. (p, bytes)) (some_bytes_of word))
reported_behind _ = None

-- those of a line's words
abbrev pub reported_by : List (List ℕ) → Option (ℕ × List ℕ)
reported_by [] = None
reported_by (word ∷ words) = if same_bytes word (codes "reply") then reported_behind words else None

abbrev pub reported : Reported → ℕ × List ℕ
reported t = (t.process, t.bytes.items)

-- the reply that bytes are, where this process signed it
abbrev pub reply_in : ℕ → List ℕ → Option Reply
reply_in p bytes = and_then (result_ok (reply_of bytes)) (λ r. if r.signer == p then Some r else None)

-- the vote after one reply
abbrev pub voted : Kit → List (ℕ × List ℕ) → Vote → Reply → Vote
voted kit keys vote r = offered (is_valid kit.scheme) kit.group (key_in keys) vote r

-- the vote after a reply, or the fault of the line with this number
abbrev pub vote_with : Kit → List (ℕ × List ℕ) → ℕ → Vote → Option Reply → Result Vote KitFault
vote_with kit keys n vote None = Err (Line n)
vote_with kit keys n vote (Some r) = Ok (voted kit keys vote r)

-- after a line
abbrev pub line_voted : Kit → List (ℕ × List ℕ) → ℕ → Vote → List ℕ → Result Vote KitFault
line_voted kit keys n vote line = vote_with kit keys n vote (reply_by (words_of line))
