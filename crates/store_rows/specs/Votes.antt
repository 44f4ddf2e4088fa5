-- Four members, one of which may be corrupt: what a client makes of replies, and what it accepts. A signature is valid where it is the key.
use Rattle.std.specs.Prelude.{◌≡◌, ℕ, ◌==◌, if◌then◌else◌, List, [], ◌∷◌, Option, Some, None}
use Rattle.byte_defs.specs.Equality.{same_bytes}
use Rattle.group_defs.specs.Views.{View}
use Rattle.store_defs.specs.declared.Offer.{Offer}
use Rattle.store_defs.specs.declared.Offer.TheVariants.{OtherRequest, Stranger, Unsigned, Known, Counted}
use Rattle.store_defs.specs.Records.{Reply}
use Rattle.store_defs.specs.Votes.{Content, Valid, Vote, accepted, new_vote, offer, offered}

unfoldable pub view : View
view = record { number = 0; members = 0 ∷ 1 ∷ 2 ∷ 3 ∷ [] }

-- of processes 0, 1, 2 and 4
unfoldable pub keys : ℕ → Option (List ℕ)
keys p = if p == 0 then Some (97 ∷ []) else if p == 1 then Some (98 ∷ []) else if p == 2 then Some (99 ∷ []) else if p == 4 then Some (101 ∷ []) else None

abbrev pub valid : Valid
valid key body signature = same_bytes key signature

abbrev pub reply : ℕ → ℕ → ℕ → ℕ → List ℕ → List ℕ → List ℕ → Reply
reply signer view place position payload answer signature = record {
  signer = signer;
  view = view;
  place = place;
  position = position;
  payload = payload;
  answer = answer;
  signature = signature;
}

abbrev pub content : ℕ → ℕ → List ℕ → Content
content place position answer = record { place = place; position = position; answer = answer }

-- what is made of each reply, and what is accepted
abbrev pub judged : Vote → List Reply → List Offer × Option Content
judged vote [] = ([], accepted vote)
judged vote (r ∷ rs) =
    let rest : List Offer × Option Content = judged (offered valid [] keys vote r) rs in
    (offer valid [] (keys r.signer) vote r ∷ rest.0, rest.1)

abbrev pub voted : List Reply → List Offer × Option Content
voted rs = judged (new_vote view (112 ∷ [])) rs

-- the row: what the definitions give
pub record Votes : Type 0 where
  -- one reply: f members, which is too few
  pub one_member : voted (reply 0 0 0 0 (112 ∷ []) (121 ∷ []) (97 ∷ []) ∷ []) ≡ ((Counted ∷ []), None)
  -- one member's reply twice
  pub one_twice : voted (reply 0 0 0 0 (112 ∷ []) (121 ∷ []) (97 ∷ []) ∷ reply 0 0 0 0 (112 ∷ []) (121 ∷ []) (97 ∷ []) ∷ []) ≡ ((Counted ∷ Known ∷ []), None)
  -- f + 1 members
  pub two : voted (reply 0 0 0 0 (112 ∷ []) (121 ∷ []) (97 ∷ []) ∷ reply 1 0 0 0 (112 ∷ []) (121 ∷ []) (98 ∷ []) ∷ []) ≡ ((Counted ∷ Counted ∷ []), Some (content 0 0 (121 ∷ [])))
  -- the other one's reply is of another view
  pub other_view : voted (reply 0 0 0 0 (112 ∷ []) (121 ∷ []) (97 ∷ []) ∷ reply 1 1 0 0 (112 ∷ []) (121 ∷ []) (98 ∷ []) ∷ []) ≡ ((Counted ∷ OtherRequest ∷ []), None)
  -- the other one's reply is to another payload
  pub other_payload : voted (reply 0 0 0 0 (112 ∷ []) (121 ∷ []) (97 ∷ []) ∷ reply 1 0 0 0 (113 ∷ []) (121 ∷ []) (98 ∷ []) ∷ []) ≡ ((Counted ∷ OtherRequest ∷ []), None)
  -- the other one's signature is not valid
  pub unsigned : voted (reply 0 0 0 0 (112 ∷ []) (121 ∷ []) (97 ∷ []) ∷ reply 1 0 0 0 (112 ∷ []) (121 ∷ []) (120 ∷ []) ∷ []) ≡ ((Counted ∷ Unsigned ∷ []), None)
  -- the client has no reply key of the other one
  pub no_key : voted (reply 0 0 0 0 (112 ∷ []) (121 ∷ []) (97 ∷ []) ∷ reply 3 0 0 0 (112 ∷ []) (121 ∷ []) (63 ∷ []) ∷ []) ≡ ((Counted ∷ Unsigned ∷ []), None)
  -- the other one is no member
  pub stranger : voted (reply 0 0 0 0 (112 ∷ []) (121 ∷ []) (97 ∷ []) ∷ reply 4 0 0 0 (112 ∷ []) (121 ∷ []) (101 ∷ []) ∷ []) ≡ ((Counted ∷ Stranger ∷ []), None)
  -- the other one gives another answer
  pub other_answer : voted (reply 0 0 0 0 (112 ∷ []) (121 ∷ []) (97 ∷ []) ∷ reply 1 0 0 0 (112 ∷ []) (122 ∷ []) (98 ∷ []) ∷ []) ≡ ((Counted ∷ Counted ∷ []), None)
  -- the other one gives another place
  pub other_place : voted (reply 0 0 0 0 (112 ∷ []) (121 ∷ []) (97 ∷ []) ∷ reply 1 0 1 0 (112 ∷ []) (121 ∷ []) (98 ∷ []) ∷ []) ≡ ((Counted ∷ Counted ∷ []), None)
  -- both give two: the least counts
  pub two_contents : voted (reply 0 0 1 0 (112 ∷ []) (121 ∷ []) (97 ∷ []) ∷ reply 1 0 1 0 (112 ∷ []) (121 ∷ []) (98 ∷ []) ∷ reply 0 0 0 0 (112 ∷ []) (121 ∷ []) (97 ∷ []) ∷ reply 1 0 0 0 (112 ∷ []) (121 ∷ []) (98 ∷ []) ∷ []) ≡ ((Counted ∷ Counted ∷ Counted ∷ Counted ∷ []), Some (content 0 0 (121 ∷ [])))
  -- one of three lies, and then says what the others say
  pub liar_first : voted (reply 2 0 0 0 (112 ∷ []) (120 ∷ []) (99 ∷ []) ∷ reply 0 0 0 0 (112 ∷ []) (121 ∷ []) (97 ∷ []) ∷ reply 1 0 0 0 (112 ∷ []) (121 ∷ []) (98 ∷ []) ∷ reply 2 0 0 0 (112 ∷ []) (121 ∷ []) (99 ∷ []) ∷ []) ≡ ((Counted ∷ Counted ∷ Counted ∷ Counted ∷ []), Some (content 0 0 (121 ∷ [])))
