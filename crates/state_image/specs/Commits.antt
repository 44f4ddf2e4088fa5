-- Commit certificates as an archive keeps them, read again.
use Rattle.std.specs.Prelude.{ℕ, List, [], map, slice_get, unwrap_or}
use Rattle.message_defs.specs.Statements.{Claim}
use Rattle.message_defs.specs.Packing.{Signed}
use Rattle.snapshot_rp.specs.Claims.{kept}

-- the claim that stands so in a frame
abbrev pub claim_as : Signed → Claim
claim_as c = kept c.signer c.statement c.signature

abbrev pub claims_as : List Signed → List Claim
claims_as cs = map claim_as cs

-- the claims of the commit certificate of view x; none where it was not left
abbrev pub commit_at : List (List Signed) → ℕ → List Claim
commit_at commits x = claims_as (unwrap_or (slice_get commits x) [])
