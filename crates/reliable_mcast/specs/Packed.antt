-- Lists of claims as frames.
use Rattle.std.specs.Prelude.{◌≡◌, ℕ, List, [], ◌∷◌, map}
use Rattle.message_defs.specs.Frames as frames
use Rattle.message_defs.specs.Packing.{Signed, group_of, pack_from}
use Rattle.reliable_mcast.specs.declared.sheet.FrameKind.{FrameKind}
use Rattle.reliable_mcast.specs.declared.sheet.FrameKind.TheVariants.{Bundle, Proof}

-- the kind's number
abbrev pub kind_number : FrameKind → ℕ
kind_number Bundle = 1
kind_number Proof = 2

-- the bytes of a frame of this kind with these groups
abbrev pub frame_as : FrameKind → List frames.Group → List ℕ
frame_as Bundle gs = frames.frame_bytes (frames.Bundle gs)
frame_as Proof gs = frames.frame_bytes (frames.Proof gs)

-- the groups of each frame of a list of claims; of none, none
abbrev pub packed : List Signed → List (List frames.Group)
packed [] = []
packed (c ∷ cs) = pack_from (group_of c ∷ []) cs

-- the frames of this kind
abbrev pub frames_as : FrameKind → List Signed → List (List ℕ)
frames_as kind cs = map (frame_as kind) (packed cs)

-- what is packed and is handed out frame by frame, and what is in the list that is being packed
pub record Packing : Type 0 where
  pub frames : List (List ℕ)
  pub claims : List Signed

-- the list is these claims now, and nothing is packed
pub record Fills (old new : Packing) (cs : List Signed) : Type 0 where
  pub frames : new.frames ≡ old.frames
  pub claims : new.claims ≡ cs
