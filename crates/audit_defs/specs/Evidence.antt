-- Evidence that outlives an audit. The findings give the two statements of a convicted process, and nobody can check them without the
-- journals. A frame that holds both claims with their signatures can be checked by whoever has the public lines of the kit:
--   evidence P HEX       P is convicted, and HEX is a Bundle of the two claims that convict it, in their order
-- A frame convicts the signers of two valid claims in it that conflict.
use Rattle.std.specs.Prelude.{ℕ, List, [], ◌∷◌, codes}
use Rattle.std.specs.Fmt.{decimal}
use Rattle.hex.specs.Hex.{encode_lower}
use Rattle.text_defs.specs.Words.{line_text}
use Rattle.message_defs.specs.Claims.{Frame, Claims, Wants, Faulty, frame_said}
use Rattle.message_defs.specs.Packing.{signed_of, group_of}
use Rattle.message_defs.specs.Frames.{Bundle, frame_bytes}
use Rattle.message_defs.specs.Statements.{Claim}
use Rattle.group_defs.specs.Process.{Setting}
use Rattle.conviction_defs.specs.Convictions.{Conviction, convicted}

-- whom the claims of a frame convict; a frame without claims nobody
abbrev pub convicted_by : Setting → Frame → List ℕ
convicted_by s (Claims claims) = convicted s claims
convicted_by s (Wants x k) = []
convicted_by s (Faulty fault) = []

-- whom the bytes convict
abbrev pub convicted_in : Setting → List ℕ → List ℕ
convicted_in s bytes = convicted_by s (frame_said bytes)

-- the two claims as a Bundle; their statements differ, so each has a group of its own
abbrev pub pair_frame : Claim → Claim → List ℕ
pair_frame first second = frame_bytes (Bundle (group_of (signed_of first) ∷ group_of (signed_of second) ∷ []))

-- the evidence of a conviction
abbrev pub evidence_line : Conviction → List ℕ
evidence_line c = line_text (codes "evidence" ∷ decimal c.process ∷ encode_lower (pair_frame c.first c.second) ∷ [])
