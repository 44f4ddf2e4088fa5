-- The client: which answer more than f members of a view gave.
-- Names here (* for this crate alone):
--   Valid, Content, content_of, content_numbers, same_content, Vote, new_vote, is_asked, is_signed, has_given, offer, with_reply,
--     offered, vote_after, voters, is_enough, accepted
use Rattle.std.specs.Prelude.{ℕ, Bool, ◌&&◌, not, ◌==◌, nat_lt, if◌then◌else◌, List, [], ◌∷◌, ◌++◌, length, map, filter, count_by, Option}
use Rattle.std.specs.List.{list_any}
use Rattle.std.specs.Option.{unwrap_or}
use Rattle.byte_defs.specs.Choices.{first_that_holds, is_some_and}
use Rattle.byte_defs.specs.Equality.{same_bytes}
use Rattle.byte_defs.specs.Orders.{least}
use Rattle.group_defs.specs.Views.{View, faulty, is_member}
use Rattle.store_defs.specs.declared.Offer.{Offer}
use Rattle.store_defs.specs.declared.Offer.TheVariants.{OtherRequest, Stranger, Unsigned, Known, Counted}
use Rattle.store_defs.specs.Records.{Reply, reply_body}

-- how signatures are checked: key, body, signature
abbrev pub Valid : Type 0
Valid = List ℕ → List ℕ → List ℕ → Bool

-- a place, a position and an answer
pub record Content : Type 0 where
  pub place : ℕ
  pub position : ℕ
  pub answer : List ℕ

abbrev pub content_of : Reply → Content
content_of r = record { place = r.place; position = r.position; answer = r.answer }

-- contents are ordered by place, then by position, then by answer
abbrev pub content_numbers : Content → List ℕ
content_numbers c = c.place ∷ c.position ∷ c.answer

abbrev pub same_content : Content → Content → Bool
same_content c d = same_bytes (content_numbers c) (content_numbers d)

-- what a client asks: how a payload was answered in a view; and whose replies count, with their contents, in order
pub record Vote : Type 0 where
  pub view : View
  pub payload : List ℕ
  pub counted : List (ℕ × Content)

abbrev pub new_vote : View → List ℕ → Vote
new_vote view payload = record { view = view; payload = payload; counted = [] }

-- it answers this payload, in the view of this number
abbrev pub is_asked : View → List ℕ → Reply → Bool
is_asked view payload r = same_bytes r.payload payload && (r.view == view.number)

-- its signature is valid under the key, where there is one
abbrev pub is_signed : Valid → List ℕ → Option (List ℕ) → Reply → Bool
is_signed valid group key r = is_some_and key (λ k. valid k (reply_body group r) r.signature)

-- the signer is counted with this content
abbrev pub has_given : Vote → Content → ℕ → Bool
has_given vote c m = list_any (λ g. (g.0 == m) && same_content c g.1) vote.counted

-- the first that holds
unfoldable pub offer : Valid → List ℕ → Option (List ℕ) → Vote → Reply → Offer
offer valid group key vote r = unwrap_or (first_that_holds (
    (not (is_asked vote.view vote.payload r), OtherRequest)
    ∷ (not (is_member vote.view r.signer), Stranger)
    ∷ (not (is_signed valid group key r), Unsigned)
    ∷ (has_given vote (content_of r) r.signer, Known)
    ∷ [])) Counted

-- the vote with the reply, where it counts
abbrev pub with_reply : Vote → Reply → Offer → Vote
with_reply vote r Counted = record vote { counted = vote.counted ++ (r.signer, content_of r) ∷ [] }
with_reply vote r OtherRequest = vote
with_reply vote r Stranger = vote
with_reply vote r Unsigned = vote
with_reply vote r Known = vote

-- after one reply, under the key of its signer
abbrev pub offered : Valid → List ℕ → (ℕ → Option (List ℕ)) → Vote → Reply → Vote
offered valid group keys vote r = with_reply vote r (offer valid group (keys r.signer) vote r)

-- after these replies, one after the other
unfoldable pub vote_after : Valid → List ℕ → (ℕ → Option (List ℕ)) → Vote → List Reply → Vote
vote_after valid group keys vote [] = vote
vote_after valid group keys vote (r ∷ rs) = vote_after valid group keys (offered valid group keys vote r) rs

-- how many members gave the content
abbrev pub voters : Vote → Content → ℕ
voters vote c = count_by (has_given vote c) vote.view.members

-- more than f members gave it
abbrev pub is_enough : Vote → Content → Bool
is_enough vote c = nat_lt (faulty (length vote.view.members)) (voters vote c)

-- the least place, position and answer that more than f members gave
unfoldable pub accepted : Vote → Option Content
accepted vote = least content_numbers (filter (is_enough vote) (map (λ g. g.1) vote.counted))
