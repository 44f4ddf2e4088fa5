-- What bytes say that have no claims.
use Rattle.std.proofs.Common.{◌≡◌, ℕ, List, [], Result, Ok, Err, refl, ap, ◌∙◌}
use Rattle.message_defs.specs.declared.FrameFault.{FrameFault}
use Rattle.message_defs.specs.Statements.{Claim}
use Rattle.message_defs.specs.Frames.{Want, frame_of}
use Rattle.message_defs.specs.Claims.{Frame, said, said_by, claims_of, frame_said}
use Rattle.group_defs.specs.Events.{Hand}
use Rattle.group_defs.specs.Family.{claims_in}
use Rattle.replay_world.specs.Handing.{claims_of as claims_of_bytes}

abbrev pub claims_said : Frame → List Claim
claims_said f = claims_in (Hand 0 f)

-- a Want has none
pub want_none : (bytes : List ℕ) (x k : ℕ) → frame_of bytes ≡ Ok (Want x k) → claims_of_bytes bytes ≡ []
unfolding frame_said
want_none bytes x k is = ap (λ r. claims_said (said_by r)) is ∙ go (claims_of (Want x k))
  where
    go : (r : Result (List Claim) FrameFault) → claims_said (said (Want x k) r) ≡ []
    go (Ok cs) = refl
    go (Err fault) = refl
