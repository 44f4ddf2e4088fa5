-- The claims that bytes hand over.
use Rattle.std.specs.Prelude.{ℕ, List, []}
use Rattle.message_defs.specs.Statements.{Claim}
use Rattle.message_defs.specs.Claims.{Frame, Claims, Wants, Faulty, frame_said}

-- those of a frame; a Want and a faulty frame have none
abbrev pub claims_of_frame : Frame → List Claim
claims_of_frame (Claims claims) = claims
claims_of_frame (Wants x k) = []
claims_of_frame (Faulty fault) = []

-- those of bytes that came as a frame
abbrev pub claims_handed : List ℕ → List Claim
claims_handed bytes = claims_of_frame (frame_said bytes)
