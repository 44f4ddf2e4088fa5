-- When there is no next view, and which view is next.
use Rattle.std.specs.Prelude.{◌≡◌, ℕ, List, [], ◌∷◌, Some}
use Rattle.std.specs.List.{range_with_len}
use Rattle.message_defs.specs.Updates.{Remove, Add, Renew}
use Rattle.group_defs.specs.Views.{View, ViewsSpent, AlreadyMember, GroupFull, NotMember, LastMember, next_fault, next_view}

abbrev pub view : ℕ → List ℕ → View
view x members = record { number = x; members = members }

abbrev pub four : List ℕ
four = 0 ∷ 1 ∷ 2 ∷ 3 ∷ []

-- the row: what the definitions give
pub record NextRefusals : Type 0 where
  -- a member can't be added, nor a seventeenth one
  pub already : next_fault (view 0 four) (Add 2) ≡ Some AlreadyMember
  pub full : next_fault (view 0 (range_with_len 0 16)) (Add 20) ≡ Some GroupFull
  -- a stranger can't be removed, nor the last member
  pub stranger : next_fault (view 0 (0 ∷ [])) (Remove 5) ≡ Some NotMember
  pub last : next_fault (view 0 (0 ∷ [])) (Remove 0) ≡ Some LastMember
  -- view 1023 is the last one, and this cause comes first
  pub spent : next_fault (view 1023 four) Renew ≡ Some ViewsSpent
  pub spent_first : next_fault (view 1023 four) (Add 2) ≡ Some ViewsSpent
  -- Remove closes up, Add appends, Renew keeps
  pub removed : next_view (view 0 four) (Remove 1) ≡ view 1 (0 ∷ 2 ∷ 3 ∷ [])
  pub added : next_view (view 1 (0 ∷ 2 ∷ 3 ∷ [])) (Add 1) ≡ view 2 (0 ∷ 2 ∷ 3 ∷ 1 ∷ [])
  pub renewed : next_view (view 0 four) Renew ≡ view 1 four
