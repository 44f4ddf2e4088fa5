-- The row of specs/Votes.antt, computed.
use Rattle.std.proofs.Common.{◌≡◌, refl, ℕ, List, [], ◌∷◌, Option, Some, None}
use Rattle.store_defs.specs.declared.Offer.TheVariants.{OtherRequest, Stranger, Unsigned, Known, Counted}
use Rattle.store_defs.specs.Votes.{accepted, offer}
use Rattle.store_defs.specs.Records.{reply_body}
use Rattle.store_rows.specs.Votes.{Votes, content, keys, reply, view, voted}

one_member : voted (reply 0 0 0 0 (112 ∷ []) (121 ∷ []) (97 ∷ []) ∷ []) ≡ ((Counted ∷ []), None)
unfolding accepted offer reply_body keys view
one_member = refl

one_twice : voted (reply 0 0 0 0 (112 ∷ []) (121 ∷ []) (97 ∷ []) ∷ reply 0 0 0 0 (112 ∷ []) (121 ∷ []) (97 ∷ []) ∷ []) ≡ ((Counted ∷ Known ∷ []), None)
unfolding accepted offer reply_body keys view
one_twice = refl

two : voted (reply 0 0 0 0 (112 ∷ []) (121 ∷ []) (97 ∷ []) ∷ reply 1 0 0 0 (112 ∷ []) (121 ∷ []) (98 ∷ []) ∷ []) ≡ ((Counted ∷ Counted ∷ []), Some (content 0 0 (121 ∷ [])))
unfolding accepted offer reply_body keys view
two = refl

other_view : voted (reply 0 0 0 0 (112 ∷ []) (121 ∷ []) (97 ∷ []) ∷ reply 1 1 0 0 (112 ∷ []) (121 ∷ []) (98 ∷ []) ∷ []) ≡ ((Counted ∷ OtherRequest ∷ []), None)
unfolding accepted offer reply_body keys view
other_view = refl

other_payload : voted (reply 0 0 0 0 (112 ∷ []) (121 ∷ []) (97 ∷ []) ∷ reply 1 0 0 0 (113 ∷ []) (121 ∷ []) (98 ∷ []) ∷ []) ≡ ((Counted ∷ OtherRequest ∷ []), None)
unfolding accepted offer reply_body keys view
other_payload = refl

unsigned : voted (reply 0 0 0 0 (112 ∷ []) (121 ∷ []) (97 ∷ []) ∷ reply 1 0 0 0 (112 ∷ []) (121 ∷ []) (120 ∷ []) ∷ []) ≡ ((Counted ∷ Unsigned ∷ []), None)
unfolding accepted offer reply_body keys view
unsigned = refl

no_key : voted (reply 0 0 0 0 (112 ∷ []) (121 ∷ []) (97 ∷ []) ∷ reply 3 0 0 0 (112 ∷ []) (121 ∷ []) (63 ∷ []) ∷ []) ≡ ((Counted ∷ Unsigned ∷ []), None)
unfolding accepted offer reply_body keys view
no_key = refl

stranger : voted (reply 0 0 0 0 (112 ∷ []) (121 ∷ []) (97 ∷ []) ∷ reply 4 0 0 0 (112 ∷ []) (121 ∷ []) (101 ∷ []) ∷ []) ≡ ((Counted ∷ Stranger ∷ []), None)
unfolding accepted offer reply_body keys view
stranger = refl

other_answer : voted (reply 0 0 0 0 (112 ∷ []) (121 ∷ []) (97 ∷ []) ∷ reply 1 0 0 0 (112 ∷ []) (122 ∷ []) (98 ∷ []) ∷ []) ≡ ((Counted ∷ Counted ∷ []), None)
unfolding accepted offer reply_body keys view
other_answer = refl

other_place : voted (reply 0 0 0 0 (112 ∷ []) (121 ∷ []) (97 ∷ []) ∷ reply 1 0 1 0 (112 ∷ []) (121 ∷ []) (98 ∷ []) ∷ []) ≡ ((Counted ∷ Counted ∷ []), None)
unfolding accepted offer reply_body keys view
other_place = refl

two_contents : voted (reply 0 0 1 0 (112 ∷ []) (121 ∷ []) (97 ∷ []) ∷ reply 1 0 1 0 (112 ∷ []) (121 ∷ []) (98 ∷ []) ∷ reply 0 0 0 0 (112 ∷ []) (121 ∷ []) (97 ∷ []) ∷ reply 1 0 0 0 (112 ∷ []) (121 ∷ []) (98 ∷ []) ∷ []) ≡ ((Counted ∷ Counted ∷ Counted ∷ Counted ∷ []), Some (content 0 0 (121 ∷ [])))
unfolding accepted offer reply_body keys view
two_contents = refl

liar_first : voted (reply 2 0 0 0 (112 ∷ []) (120 ∷ []) (99 ∷ []) ∷ reply 0 0 0 0 (112 ∷ []) (121 ∷ []) (97 ∷ []) ∷ reply 1 0 0 0 (112 ∷ []) (121 ∷ []) (98 ∷ []) ∷ reply 2 0 0 0 (112 ∷ []) (121 ∷ []) (99 ∷ []) ∷ []) ≡ ((Counted ∷ Counted ∷ Counted ∷ Counted ∷ []), Some (content 0 0 (121 ∷ [])))
unfolding accepted offer reply_body keys view
liar_first = refl

pub votes : Votes
votes = record { one_member = one_member; one_twice = one_twice; two = two; other_view = other_view; other_payload = other_payload; unsigned = unsigned; no_key = no_key; stranger = stranger; other_answer = other_answer; other_place = other_place; two_contents = two_contents; liar_first = liar_first }
