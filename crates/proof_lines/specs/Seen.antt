-- Lines of views that were left, as they are written.
use Rattle.std.specs.Prelude.{◌≡◌, ℕ, List, [], ◌∷◌, ◌++◌, All, codes, Option, Some, None}
use Rattle.std.specs.Fmt.{decimal}
use Rattle.hex.specs.Hex.{IsBytes, encode_lower}
use Rattle.text_defs.specs.Words.{line_feed}
use Rattle.message_defs.specs.Spelling.{IsClaim}
use Rattle.group_defs.specs.Process.{Left}
use Rattle.proof_defs.specs.Lines.{proof_frames}

-- the frame, where there is one and no other
abbrev pub only : List (List ℕ) → Option (List ℕ)
only (frame ∷ []) = Some frame
only _ = None

-- the line of a view whose one frame is this
abbrev pub frame_line : List ℕ → List ℕ
frame_line frame = codes "proof " ++ (encode_lower frame ++ line_feed ∷ [])

-- the line of a view that this process left, which has not one frame
abbrev pub large_line : ℕ → List ℕ
large_line me = codes "proof " ++ (decimal me ++ codes " large\n")

abbrev pub line_by : ℕ → Option (List ℕ) → List ℕ
line_by me (Some frame) = frame_line frame
line_by me None = large_line me

-- what the view was left by is in range, and its one frame, if it has one, is of bytes
pub record CanTravel (l : Left) : Type 0 where
  pub claims : All IsClaim l.commit
  pub bytes : (frame : List ℕ) → proof_frames l ≡ frame ∷ [] → IsBytes frame
