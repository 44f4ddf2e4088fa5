-- From which images a member begins again, with which signers, and which process it then is.
use Rattle.std.specs.Prelude.{◌≡◌, ℕ, ◌≤◌, length}
use Rattle.group_defs.specs.Process.{Setting, all_kinds}
use Rattle.image_defs.specs.Images.{Image, process_of}
use Rattle.image_defs.specs.Kept.{IsKept}
use Rattle.member_restoring.specs.States.{IsStateOf}
use Rattle.member_restoring.specs.declared.restored.Restored.{Restored}

-- The image is kept, and its signed claims are no fewer than the signatures that the signer has made, and no more than it can make in all.
pub record IsRestorable (s : Setting) (i : Image) (used total : ℕ) : Type 0 where
  pub kept : IsKept s i
  pub made : used ≤ length i.signed
  pub within : length i.signed ≤ total

-- the signer
abbrev pub signer_in : {G : Type 0} → Restored G → G
signer_in r = r.signer

-- This is the process of the image, with this batch limit, and its key has made as many signatures as the process has signed statements.
-- `used` tells how many signatures a signer has made.
pub record IsRestored {G : Type 0} (used : G → ℕ) (s : Setting) (batch_limit : ℕ) (i : Image) (r : Restored G) : Type 0 where
  pub state : IsStateOf s (process_of s batch_limit i) r.state
  pub group : s.group ≡ r.group
  pub roster : s.roster ≡ r.roster
  pub kinds : s.signs ≡ all_kinds
  pub signed : length i.signed ≡ used (signer_in r)
