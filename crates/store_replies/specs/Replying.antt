-- What of a server answers the messages that its process delivers.
use Rattle.std.specs.Prelude.{◌≡◌, ℕ, min, List, Option, option_map}
use Rattle.store_defs.specs.Keys.{Signs}
use Rattle.store_defs.specs.Serving.{Place, Server, position_at}
use Rattle.store_keys.specs.Keys.{signs}
use Rattle.store_replies.specs.Words.{most_counted, HasSpelling}
use Rattle.store_replies.specs.declared.replies.Replies.{Replies}

-- who replies
abbrev pub me_in : Replies → ℕ
me_in r = r.me

-- its group
abbrev pub group_in : Replies → List ℕ
group_in r = r.group

-- its key
abbrev pub key_in : Replies → Signs
key_in r = signs r.key

-- the position of a message that is delivered next, at this place
abbrev pub next_position : Replies → ℕ → ℕ
next_position r place = position_at r.last place

-- the reply to the next message, of this place and payload, in the view of this number, is in its ranges
abbrev pub Fits : Replies → ℕ → ℕ → List ℕ → Type 0
Fits r view place payload = HasSpelling view place (next_position r place) payload

-- they are those of the server: who replies, by which key, how many messages it delivered, the last one, and the store
pub record IsReplying (q : Place) (s : Server) (r : Replies) : Type 0 where
  pub me : q.me ≡ me_in r
  pub group : q.group ≡ group_in r
  pub key : q.replies ≡ key_in r
  -- up to the last number that is counted
  pub delivered : r.delivered ≡ min s.delivered most_counted
  pub last : s.last ≡ r.last
  pub store : s.store ≡ r.store
