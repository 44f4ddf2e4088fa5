-- Where a pair of conflicting claims stands among others, which rise by signer.
use Rattle.std.specs.Prelude.{ℕ, suc, nat_lt, if◌then◌else◌, List, [], ◌∷◌}
use Rattle.message_defs.specs.Statements.{Claim}

-- the place of the first pair of a signer above this one, or behind the last one
abbrev pub first_above : ℕ → List (Claim × Claim) → ℕ
first_above n [] = 0
first_above n (e ∷ es) = if nat_lt n e.0.signer then 0 else suc (first_above n es)
