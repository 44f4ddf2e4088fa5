-- The service of a node that serves: a server for each hosted process, and what it answers where the node asks it.
use Rattle.std.specs.Prelude.{ℕ, List, [], ◌∷◌, ◌++◌, Option, Some, None, option_map, option_and_then}
use Rattle.std.specs.List.{flat_map}
use Rattle.signature_defs.specs.Schemes.{Scheme, is_valid}
use Rattle.text_defs.specs.Words.{words_of}
use Rattle.kit_defs.specs.Kits.{Kit, Host, roster_of}
use Rattle.group_defs.specs.Events.{Note}
use Rattle.store_defs.specs.Keys.{reply_secret, signs_of, state_secret}
use Rattle.store_defs.specs.Votes.{Valid}
use Rattle.store_defs.specs.Serving.{Place, Server, after_note, after_offer, offer_word, state_given, reported_of, with_key}
use Rattle.store_defs.specs.Words.{Word, Give, State, StateKey, given_text, offered_text, reply_key_text, state_key_text, reported_text, word_by}

-- the words after the first
abbrev pub behind_first : List (List ℕ) → List (List ℕ)
behind_first [] = []
behind_first (word ∷ words) = words

-- ---- the start

-- what never changes of a hosted process's server
abbrev pub place_of : Kit → Host → Place
place_of kit h = record {
  me = h.process;
  group = kit.group;
  replies = signs_of (reply_secret h.secret);
  states = signs_of (state_secret h.secret);
}

-- the keys of all hosted processes, those of replies first
unfoldable pub keys_text : List Place → List ℕ
keys_text places = flat_map (λ q. reply_key_text q.me q.replies.public) places ++ flat_map (λ q. state_key_text q.me q.states.public) places

-- ---- notes

-- what is written after a note
abbrev pub noted_text : Place → Server → Note → List ℕ
noted_text q s note = reported_text q.me (reported_of q s note)

-- ---- words

-- what a word writes, and the server after it; the process delivered these payloads in its view so far
unfoldable pub worded : Valid → Place → List (List ℕ) → Server → Word → List ℕ × Server
worded valid q here s Give = (given_text q.me (state_given q s), s)
worded valid q here s (State bytes) = (offered_text q.me (offer_word valid q s bytes), after_offer valid q here s bytes)
worded valid q here s (StateKey p key) = ([], with_key p key s)

-- of a line of this process; none where the line has no such word
unfoldable pub line_worded : Kit → Place → List (List ℕ) → Server → List ℕ → Option (List ℕ × Server)
line_worded kit q here s line =
    option_map (worded (is_valid kit.scheme) q here s) (word_by kit.scheme (roster_of kit.keys) (behind_first (words_of line)))
