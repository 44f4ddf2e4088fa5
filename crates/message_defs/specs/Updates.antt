-- Updates and values: how a view ends.
use Rattle.std.specs.Prelude.{ℕ, Bool, List, [], ◌∷◌, ◌++◌}
use native.Mathlib.Decide.{ℕ_discrete}
use Rattle.byte_defs.specs.Equality.{both}
use Rattle.byte_defs.specs.Orders.{numbers_below}

-- how the members of the next view differ
pub data Update : Type 0 where
  Remove : (process : ℕ) → Update
  Add : (process : ℕ) → Update
  Renew : Update
  deriving Discrete as Update-discrete

-- updates are ordered: Remove by process, then Add by process, then Renew
abbrev pub update_numbers : Update → List ℕ
update_numbers (Remove p) = 1 ∷ p ∷ []
update_numbers (Add p) = 2 ∷ p ∷ []
update_numbers Renew = 3 ∷ 0 ∷ []

-- the first update is before the other
abbrev pub update_below : Update → Update → Bool
update_below u w = numbers_below (update_numbers u) (update_numbers w)

-- what a view ends with: an update, and how many of its places count
pub record Value : Type 0 where
  pub update : Update
  pub cut : ℕ

unfoldable pub Value-discrete : Discrete Value
Value-discrete v w = both (λ u c. λ i. record { update = u i; cut = c i }) (λ e. λ i. (e i).update) (λ e. λ i. (e i).cut)
    (Update-discrete ℕ_discrete v.update w.update) (ℕ_discrete v.cut w.cut)

-- values are ordered by update, then by cut
abbrev pub value_numbers : Value → List ℕ
value_numbers v = update_numbers v.update ++ v.cut ∷ []

-- the first value is before the other
abbrev pub value_below : Value → Value → Bool
value_below v w = numbers_below (value_numbers v) (value_numbers w)
