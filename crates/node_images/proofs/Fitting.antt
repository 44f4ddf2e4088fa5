-- When the process of an image may begin, by what `judge` answers.
use Rattle.std.proofs.Common.{ℕ, ◌≤◌, length, sym, subst, arith}
use Rattle.kit_defs.specs.Kits.{Kit}
use Rattle.image_defs.specs.Images.{Image}
use Rattle.node_defs.specs.Casts.{setting_of}
use Rattle.sig_scheme.specs.declared.any_signer.AnySigner.{AnySigner}
use Rattle.sig_scheme.specs.Signers.{used, total}
use Rattle.member_restoring.specs.Restored.{IsRestorable}
use Rattle.node_images.specs.Judging.{IsFitFor}
use Rattle.node_images.proofs.Signing.{IsNew}

module _ (kit : Kit) (p : ℕ) (i : Image) (s : AnySigner) (new : IsNew kit p s) where
  pub fit-so : IsRestorable (setting_of kit) i (used s) (total s) → IsFitFor kit p i
  fit-so is = record { kept = is.kept; signed = subst (λ n. length i.signed ≤ n) new.total is.within }

  pub restorable-so : IsFitFor kit p i → IsRestorable (setting_of kit) i (used s) (total s)
  restorable-so fit = record {
    kept = fit.kept;
    made = subst (λ n. n ≤ length i.signed) (sym new.unused) (omega arith);
    within = subst (λ n. length i.signed ≤ n) (sym new.total) fit.signed;
  }
