-- Frames that are handed over to processes.
use Rattle.std.specs.Prelude.{◌≡◌, ℕ, List, [], map}
use Rattle.member_taking.specs.Below.{Packing}

-- each of the frames, with those to whom it goes
abbrev pub each_to : List ℕ → List (List ℕ) → List (List ℕ × List ℕ)
each_to to frames = map (λ bytes. (to, bytes)) frames

-- no frame is left to hand over, and no claim to pack
pub record IsEmpty (f : Packing) : Type 0 where
  pub frames : f.frames ≡ []
  pub claims : f.claims ≡ []
