-- Four members of view 1, one of which may be corrupt: what a joiner makes of their states. A signature is valid where it is the key.
use Rattle.std.specs.Prelude.{◌≡◌, ℕ, List, [], ◌∷◌, Option, Some, None}
use Rattle.group_defs.specs.Views.{View}
use Rattle.store_defs.specs.declared.Taken.{Taken}
use Rattle.store_defs.specs.declared.Taken.TheVariants.{OtherView, Stranger, Unsigned, Known, Ready, Counted}
use Rattle.store_defs.specs.Records.{StateRecord}
use Rattle.store_defs.specs.Transfers.{Transfer, new_transfer, offer, with_record}
use Rattle.store_rows.specs.Votes.{keys, valid}

unfoldable pub view_1 : View
view_1 = record { number = 1; members = 0 ∷ 1 ∷ 2 ∷ 3 ∷ [] }

abbrev pub given : ℕ → ℕ → List ℕ → List ℕ → StateRecord
given signer view state signature = record { signer = signer; view = view; state = state; signature = signature }

-- what is made of each record, and the state that is ready
abbrev pub judged : Transfer → List StateRecord → List Taken × Option (List ℕ)
judged t [] = ([], t.state)
judged t (r ∷ rs) =
    let taken : Taken = offer valid [] (keys r.signer) t r in
    let rest : List Taken × Option (List ℕ) = judged (with_record t r taken) rs in
    (taken ∷ rest.0, rest.1)

abbrev pub offering : List StateRecord → List Taken × Option (List ℕ)
offering rs = judged (new_transfer view_1) rs

-- the row: what the definitions give
pub record Transfers : Type 0 where
  -- one member
  pub one_member : offering (given 0 1 (0 ∷ 0 ∷ []) (97 ∷ []) ∷ []) ≡ ((Counted 1 ∷ []), None)
  -- f + 1 members
  pub two : offering (given 0 1 (0 ∷ 0 ∷ []) (97 ∷ []) ∷ given 1 1 (0 ∷ 0 ∷ []) (98 ∷ []) ∷ []) ≡ ((Counted 1 ∷ Ready ∷ []), Some (0 ∷ 0 ∷ []))
  -- one member's state twice
  pub one_twice : offering (given 0 1 (0 ∷ 0 ∷ []) (97 ∷ []) ∷ given 0 1 (0 ∷ 0 ∷ []) (97 ∷ []) ∷ []) ≡ ((Counted 1 ∷ Known ∷ []), None)
  -- who was counted is not counted with another state
  pub changes : offering (given 0 1 (0 ∷ 0 ∷ []) (97 ∷ []) ∷ given 0 1 (0 ∷ 1 ∷ 1 ∷ 107 ∷ 0 ∷ 0 ∷ []) (97 ∷ []) ∷ given 1 1 (0 ∷ 1 ∷ 1 ∷ 107 ∷ 0 ∷ 0 ∷ []) (98 ∷ []) ∷ []) ≡ ((Counted 1 ∷ Known ∷ Counted 1 ∷ []), None)
  -- the other one's state is of another view
  pub other_view : offering (given 0 1 (0 ∷ 0 ∷ []) (97 ∷ []) ∷ given 1 0 (0 ∷ 0 ∷ []) (98 ∷ []) ∷ []) ≡ ((Counted 1 ∷ OtherView ∷ []), None)
  -- the other one's signature is not valid
  pub unsigned : offering (given 0 1 (0 ∷ 0 ∷ []) (97 ∷ []) ∷ given 1 1 (0 ∷ 0 ∷ []) (120 ∷ []) ∷ []) ≡ ((Counted 1 ∷ Unsigned ∷ []), None)
  -- the other one is no member
  pub stranger : offering (given 0 1 (0 ∷ 0 ∷ []) (97 ∷ []) ∷ given 4 1 (0 ∷ 0 ∷ []) (101 ∷ []) ∷ []) ≡ ((Counted 1 ∷ Stranger ∷ []), None)
  -- no key of the other one
  pub no_key : offering (given 0 1 (0 ∷ 0 ∷ []) (97 ∷ []) ∷ given 3 1 (0 ∷ 0 ∷ []) (63 ∷ []) ∷ []) ≡ ((Counted 1 ∷ Unsigned ∷ []), None)
  -- the state that f + 1 members give
  pub apart : offering (given 0 1 (0 ∷ 0 ∷ []) (97 ∷ []) ∷ given 1 1 (0 ∷ 1 ∷ 1 ∷ 107 ∷ 0 ∷ 0 ∷ []) (98 ∷ []) ∷ given 2 1 (0 ∷ 1 ∷ 1 ∷ 107 ∷ 0 ∷ 0 ∷ []) (99 ∷ []) ∷ []) ≡ ((Counted 1 ∷ Counted 1 ∷ Ready ∷ []), Some (0 ∷ 1 ∷ 1 ∷ 107 ∷ 0 ∷ 0 ∷ []))
