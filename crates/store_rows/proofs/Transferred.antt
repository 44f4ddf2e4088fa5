-- The row of specs/Transfers.antt, computed.
use Rattle.std.proofs.Common.{◌≡◌, refl, ℕ, List, [], ◌∷◌, Option, Some, None}
use Rattle.store_defs.specs.declared.Taken.TheVariants.{OtherView, Stranger, Unsigned, Known, Ready, Counted}
use Rattle.store_defs.specs.Transfers.{offer}
use Rattle.store_defs.specs.Records.{state_body}
use Rattle.store_rows.specs.Votes.{keys}
use Rattle.store_rows.specs.Transfers.{Transfers, given, offering, view_1}

one_member : offering (given 0 1 (0 ∷ 0 ∷ []) (97 ∷ []) ∷ []) ≡ ((Counted 1 ∷ []), None)
unfolding offer state_body keys view_1
one_member = refl

two : offering (given 0 1 (0 ∷ 0 ∷ []) (97 ∷ []) ∷ given 1 1 (0 ∷ 0 ∷ []) (98 ∷ []) ∷ []) ≡ ((Counted 1 ∷ Ready ∷ []), Some (0 ∷ 0 ∷ []))
unfolding offer state_body keys view_1
two = refl

one_twice : offering (given 0 1 (0 ∷ 0 ∷ []) (97 ∷ []) ∷ given 0 1 (0 ∷ 0 ∷ []) (97 ∷ []) ∷ []) ≡ ((Counted 1 ∷ Known ∷ []), None)
unfolding offer state_body keys view_1
one_twice = refl

changes : offering (given 0 1 (0 ∷ 0 ∷ []) (97 ∷ []) ∷ given 0 1 (0 ∷ 1 ∷ 1 ∷ 107 ∷ 0 ∷ 0 ∷ []) (97 ∷ []) ∷ given 1 1 (0 ∷ 1 ∷ 1 ∷ 107 ∷ 0 ∷ 0 ∷ []) (98 ∷ []) ∷ []) ≡ ((Counted 1 ∷ Known ∷ Counted 1 ∷ []), None)
unfolding offer state_body keys view_1
changes = refl

other_view : offering (given 0 1 (0 ∷ 0 ∷ []) (97 ∷ []) ∷ given 1 0 (0 ∷ 0 ∷ []) (98 ∷ []) ∷ []) ≡ ((Counted 1 ∷ OtherView ∷ []), None)
unfolding offer state_body keys view_1
other_view = refl

unsigned : offering (given 0 1 (0 ∷ 0 ∷ []) (97 ∷ []) ∷ given 1 1 (0 ∷ 0 ∷ []) (120 ∷ []) ∷ []) ≡ ((Counted 1 ∷ Unsigned ∷ []), None)
unfolding offer state_body keys view_1
unsigned = refl

stranger : offering (given 0 1 (0 ∷ 0 ∷ []) (97 ∷ []) ∷ given 4 1 (0 ∷ 0 ∷ []) (101 ∷ []) ∷ []) ≡ ((Counted 1 ∷ Stranger ∷ []), None)
unfolding offer state_body keys view_1
stranger = refl

no_key : offering (given 0 1 (0 ∷ 0 ∷ []) (97 ∷ []) ∷ given 3 1 (0 ∷ 0 ∷ []) (63 ∷ []) ∷ []) ≡ ((Counted 1 ∷ Unsigned ∷ []), None)
unfolding offer state_body keys view_1
no_key = refl

apart : offering (given 0 1 (0 ∷ 0 ∷ []) (97 ∷ []) ∷ given 1 1 (0 ∷ 1 ∷ 1 ∷ 107 ∷ 0 ∷ 0 ∷ []) (98 ∷ []) ∷ given 2 1 (0 ∷ 1 ∷ 1 ∷ 107 ∷ 0 ∷ 0 ∷ []) (99 ∷ []) ∷ []) ≡ ((Counted 1 ∷ Counted 1 ∷ Ready ∷ []), Some (0 ∷ 1 ∷ 1 ∷ 107 ∷ 0 ∷ 0 ∷ []))
unfolding offer state_body keys view_1
apart = refl

pub transfers : Transfers
transfers = record { one_member = one_member; two = two; one_twice = one_twice; changes = changes; other_view = other_view; unsigned = unsigned; stranger = stranger; no_key = no_key; apart = apart }
