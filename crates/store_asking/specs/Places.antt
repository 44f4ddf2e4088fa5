-- Places of an input after its kit, and the answer from one on, whatever bytes come.
-- Names here (* for this crate alone):
--   reply keys and the view: KeyPlace*, key_place*, question_at*
--   replies: replies_at*, with_replies*, question_behind*, VotePlace*, vote_place*, vote_by*, vote_at*
--   what is found: Found*, found_for*, found_of*, found*
use Rattle.std.specs.Prelude.{ℕ, ◌+◌, List, [], ◌∷◌, ◌++◌, Option, Result, Ok, Err}
use Rattle.signature_defs.specs.Schemes.{is_valid}
use Rattle.text_defs.specs.Words.{parts_of}
use Rattle.group_defs.specs.Views.{View}
use Rattle.kit_defs.specs.Kits.{Kit, roster_of}
use Rattle.kit_defs.specs.KitReading.{KitFault}
use Rattle.store_defs.specs.Records.{Reply}
use Rattle.store_defs.specs.Votes.{Content, Vote, vote_after}
use Rattle.store_defs.specs.Asking.{Question, answered, asked, key_in, most_replies, question_from, replies_from}
use Rattle.store_asking.specs.Lines.{PlainSaid, Key, Of}

-- ---- reply keys and the view

-- A place before the line of the view: the number of the next line, the reply keys so far, and the bytes of the next lines that are
-- read already.
pub record KeyPlace : Type 0 where
  pub kit : Kit
  pub number : ℕ
  pub keys : List (ℕ × List ℕ)
  pub ahead : List ℕ

abbrev pub key_place : Kit → ℕ → List (ℕ × List ℕ) → List ℕ → KeyPlace
key_place kit number keys ahead = record { kit = kit; number = number; keys = keys; ahead = ahead }

-- the question with the lines from there on
abbrev pub question_at : KeyPlace → List ℕ → Result Question KitFault
question_at p more = question_from p.kit.scheme (roster_of p.kit.keys) p.number p.keys (parts_of (p.ahead ++ more))

-- ---- replies

-- the replies from the line of this number on, where these bytes are read already
abbrev pub replies_at : ℕ → ℕ → List ℕ → List ℕ → Result (List Reply) KitFault
replies_at n left ahead more = replies_from n left (parts_of (ahead ++ more))

-- the question in this view, under these keys
abbrev pub with_replies : List (ℕ × List ℕ) → View → Result (List Reply) KitFault → Result Question KitFault
with_replies keys view (Ok replies) = Ok (record { keys = keys; view = view; replies = replies })
with_replies keys view (Err fault) = Err fault

-- the question after the line of this number, which says this
abbrev pub question_behind : Kit → ℕ → List (ℕ × List ℕ) → List ℕ → PlainSaid → List ℕ → Result Question KitFault
question_behind kit n keys ahead (Key p key) more = question_at (key_place kit (n + 1) (keys ++ (p, key) ∷ []) ahead) more
question_behind kit n keys ahead (Of view) more = with_replies keys view (replies_at (n + 1) most_replies ahead more)

-- A place among the replies: the number of the next line, how many replies may still come, and the vote so far.
pub record VotePlace : Type 0 where
  pub kit : Kit
  pub keys : List (ℕ × List ℕ)
  pub number : ℕ
  pub left : ℕ
  pub vote : Vote
  pub ahead : List ℕ

abbrev pub vote_place : Kit → List (ℕ × List ℕ) → ℕ → ℕ → Vote → List ℕ → VotePlace
vote_place kit keys number left vote ahead =
    record { kit = kit; keys = keys; number = number; left = left; vote = vote; ahead = ahead }

-- the vote after these replies
abbrev pub vote_by : Kit → List (ℕ × List ℕ) → Vote → Result (List Reply) KitFault → Result Vote KitFault
vote_by kit keys vote (Ok replies) = Ok (vote_after (is_valid kit.scheme) kit.group (key_in keys) vote replies)
vote_by kit keys vote (Err fault) = Err fault

-- the vote with the lines from there on
abbrev pub vote_at : VotePlace → List ℕ → Result Vote KitFault
vote_at p more = vote_by p.kit p.keys p.vote (replies_at p.number p.left p.ahead more)

-- ---- what is found

-- the number of the view, and what more than f of its members answered
abbrev pub Found : Type 0
Found = ℕ × Option Content

-- for a question after a kit
abbrev pub found_for : List ℕ → Kit → Result Question KitFault → Result Found KitFault
found_for payload kit (Ok q) = Ok (q.view.number, answered kit payload q)
found_for payload kit (Err fault) = Err fault

-- for a kit and a question
abbrev pub found_of : List ℕ → Result (Kit × Question) KitFault → Result Found KitFault
found_of payload (Ok q) = Ok (q.1.view.number, answered q.0 payload q.1)
found_of payload (Err fault) = Err fault

-- for an input
abbrev pub found : List ℕ → List ℕ → Result Found KitFault
found payload input = found_of payload (asked input)
