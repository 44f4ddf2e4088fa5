-- Parts of what is told, as the code has them.
use Rattle.std.specs.Prelude.{ℕ, ◌==◌, if◌then◌else◌, List, [], ◌∷◌, map, codes, Option, Some, None, option_map}
use Rattle.std.specs.List.{flat_map}
use Rattle.std.specs.Option.{option_map_or}
use Rattle.std.specs.Result.{result_ok}
use Rattle.byte_defs.specs.Choices.{and_then}
use Rattle.story_defs.specs.Texts.{Token, Word, number}
use Rattle.store_defs.specs.Records.{Reply, reply_of}
use Rattle.store_defs.specs.Stores.{Command, Reading, Store, request_of}
use Rattle.store_text_defs.specs.Requests.{tag_of}
use Rattle.store_text_defs.specs.Meanings.{one_line, pair_tokens, reported_line}

-- lines of these tokens, each behind two blanks
unfoldable pub reported_text : List (List Token) → List ℕ
reported_text lines = flat_map reported_line lines

-- a command with its tag
abbrev pub tagged : ℕ → Command → ℕ × Command
tagged tag c = (tag, c)

-- the tag and the command of a payload that is a request
abbrev pub asked_in : List ℕ → Option (ℕ × Command)
asked_in payload = option_map (tagged (tag_of payload)) (result_ok (request_of payload))

-- where a reply is from
abbrev pub place_tokens : Reply → List Token
place_tokens r =
    Word (codes "view") ∷ number r.view ∷ Word (codes "place") ∷ number r.place ∷ Word (codes "position") ∷ number r.position
    ∷ Word (codes ":") ∷ []

-- the reply of this process that the bytes are
abbrev pub reply_from : ℕ → List ℕ → Option Reply
reply_from p bytes = and_then (result_ok (reply_of bytes)) (λ r. if r.signer == p then Some r else None)

-- how many members gave a state
abbrev pub taken_tokens : List ℕ → List Token
taken_tokens count = Word (codes "members that gave this state:") ∷ Word count ∷ []

-- of what an offer says
abbrev pub offered_lines : Option (List Token) → List (List Token)
offered_lines reported = option_map_or one_line reported []

-- of a store that was read
abbrev pub pairs_reported : Reading Store → List (List Token)
pairs_reported read = option_map_or (map pair_tokens) (result_ok read) []
