-- The claims of one process.
use Rattle.std.specs.Prelude.{ℕ, ◌==◌, List, map, filter}
use Rattle.message_defs.specs.Statements.{Claim}
use Rattle.stmt_codec.specs.Views.{claim}
use Rattle.conviction.specs.declared.own.Own.{Own}

-- those of these claims that the process makes, in order
abbrev pub claims_of_signer : List Claim → ℕ → List Claim
claims_of_signer claims q = filter (λ c. c.signer == q) claims

-- a claim as it is kept
abbrev pub kept : Own → Claim
kept own = claim own.0

-- claims as they are kept, in order
abbrev pub all_kept : List Own → List Claim
all_kept owns = map kept owns
