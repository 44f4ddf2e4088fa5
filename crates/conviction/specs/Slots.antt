-- The claims on one slot.
use Rattle.std.specs.Prelude.{◌≡◌, ◌&&◌, false, List, filter, All}
use Rattle.message_defs.specs.Statements.{Claim}
use Rattle.group_defs.specs.Process.{Setting}
use Rattle.group_defs.specs.Hearing.{is_valid}
use Rattle.conviction_defs.specs.Convictions.{has_conflict, is_on_slot}

-- the valid ones of these claims that are on the slot of this one
abbrev pub valid_on : Setting → Claim → List Claim → List Claim
valid_on s c claims = filter (λ b. is_on_slot c b && is_valid s b) claims

-- on no slot of these do two valid ones of the claims conflict
abbrev pub AreQuiet : Setting → List Claim → List Claim → Type 0
AreQuiet s claims these = All (λ c. has_conflict (valid_on s c claims) ≡ false) these
