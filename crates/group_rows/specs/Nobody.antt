-- A family of no correct process meets the premises, and its group has no view and nothing delivered.
use Rattle.std.specs.Prelude.{◌≡◌, ℕ, [], ◌∷◌}
use Rattle.group_defs.specs.Accounts.{group_of}
use Rattle.group_defs.specs.Family.{Family, accounts}
use Rattle.group_defs.specs.Laws.{Premises}
use Rattle.group_rows.specs.Scripts.{setting}

unfoldable pub f : Family
f = record { setting = setting (0 ∷ 1 ∷ 2 ∷ 3 ∷ []) (0 ∷ 1 ∷ 2 ∷ 3 ∷ []); correct = [] }

-- the row: what the definitions give
pub record Nobody : Type 0 where
  pub premises : Premises f
  pub no_views : (group_of (accounts f)).views ≡ []
  pub no_deliveries : (x : ℕ) → (group_of (accounts f)).sequence x ≡ []
