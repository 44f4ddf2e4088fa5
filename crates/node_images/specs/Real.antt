-- Which process of the definitions one is that was judged.
use Rattle.group_defs.specs.Process.{Setting}
use Rattle.image_defs.specs.Images.{Image}
use Rattle.sig_scheme.specs.declared.any_signer.AnySigner.{AnySigner}
use Rattle.sig_scheme.specs.Signers.{used}
use Rattle.member_restoring.specs.Restored.{IsRestored}
use Rattle.member_restoring.specs.declared.restored.Restored.{Restored}

-- some process of an image is this one; which one is left open
pub record HasImage (r : Restored AnySigner) : Type 0 where
  pub setting : Setting
  pub image : Image
  pub restored : IsRestored used setting 1 image r

abbrev pub IsReal : Restored AnySigner → Type 0
IsReal r = ∥ HasImage r ∥₁
