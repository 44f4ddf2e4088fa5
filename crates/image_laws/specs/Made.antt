-- The image of every process that a run makes is kept.
use Rattle.std.specs.Prelude.{ℕ, List, All, IsTrue}
use Rattle.group_defs.specs.Views.{IsView}
use Rattle.group_defs.specs.Process.{Setting, Process, start}
use Rattle.group_defs.specs.Hearing.{is_valid}
use Rattle.group_defs.specs.Family.{handed_to}
use Rattle.group_defs.specs.Events.{Turn, run}
use Rattle.image_defs.specs.Images.{image_of}
use Rattle.image_defs.specs.Kept.{IsKept}
use Rattle.image_laws.specs.Keeping.{InRange, LeftFits, HeardFits, SignedFits, PlacedFits, DecisionFits, AcceptedFits, PerceivedFits}

-- what must be so of a process for its image to be kept
pub record Fits (s : Setting) (p : Process) : Type 0 where
  pub left : LeftFits s p
  pub heard : HeardFits s p
  pub signed : SignedFits s p
  pub placed : PlacedFits p
  pub decision : DecisionFits s p
  pub accepted : AcceptedFits p
  pub perceived : PerceivedFits s p

-- If a process fits, it fits after a run too, where every claim that it has signed by then is valid, and every statement that was handed
-- to it is in range.
abbrev pub RunsFit : Type 0
RunsFit = (s : Setting) (p : Process) (turns : List Turn) → All (λ c. IsTrue (is_valid s c)) (run s p turns).signed
    → All (λ c. InRange c.statement) (handed_to turns) → Fits s p → Fits s (run s p turns)

-- So if a process begins in a genesis view, its image is kept after any such run.
abbrev pub ImagesAreKept : Type 0
ImagesAreKept = (s : Setting) (me batch_limit : ℕ) (turns : List Turn) → IsView s.genesis
    → All (λ c. IsTrue (is_valid s c)) (run s (start s me batch_limit) turns).signed
    → All (λ c. InRange c.statement) (handed_to turns) → IsKept s (image_of (run s (start s me batch_limit) turns))
