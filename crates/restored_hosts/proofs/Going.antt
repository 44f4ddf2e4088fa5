-- One process of a snapshot, as it goes on.
use Rattle.std.proofs.Common.{◌≡◌, ℕ, sym, ap, subst, ◌∙◌}
use Rattle.group_defs.specs.Process.{Process}
use Rattle.image_defs.specs.Images.{process_of}
use Rattle.journal_defs.specs.declared.Version.{Version}
use Rattle.journal_defs.specs.Journals.{batch_limit}
use Rattle.kit_defs.specs.Kits.{Kit}
use Rattle.node_defs.specs.Casts.{cast_of, setting_of}
use Rattle.sig_scheme.specs.declared.any_signer.AnySigner.{AnySigner}
use Rattle.sig_scheme.specs.Signers.{used, total, signature}
use Rattle.node_service.specs.Hosts.{Hosted, IsCore, core_of, signer_of, me_of, IsHosted}
use Rattle.node_images.specs.declared.judged.Judged.{Judged}
use Rattle.node_images.specs.Said.{Part}
use Rattle.node_images.specs.Judging.{IsJudged}
use Rattle.node_images.specs.Restored.{signer_in}

-- it is the cast's, with its batch limit
pub hosted-so : (kit : Kit) (version : Version) (limit : ℕ) (part : Part) (j : Judged) (h : Hosted AnySigner) → IsJudged kit part j
    → IsCore used (setting_of kit) (process_of (setting_of kit) limit part.2) (core_of h) → signer_of (core_of h) ≡ signer_in j.restored
    → IsHosted (cast_of kit version) part.0 (process_of (setting_of kit) limit part.2) h
hosted-so kit version limit part j h is core same = record {
  core = core;
  number = is.number;
  total = ap total same ∙ is.total;
  signs = ap signature same ∙ is.signs;
}

-- and so it is by the core's own number
pub numbered-so : (kit : Kit) (version : Version) (limit : ℕ) (part : Part) (h : Hosted AnySigner) (now : ℕ → Process) → batch_limit version ≡ limit
    → me_of (core_of h) ≡ part.0 → now part.0 ≡ process_of (setting_of kit) (cast_of kit version).batch_limit part.2
    → IsHosted (cast_of kit version) part.0 (process_of (setting_of kit) limit part.2) h
    → IsHosted (cast_of kit version) (me_of (core_of h)) (now (me_of (core_of h))) h
numbered-so kit version limit part h now same_limit number same is =
    let process : now part.0 ≡ process_of (setting_of kit) limit part.2 = same ∙ ap (λ l. process_of (setting_of kit) l part.2) same_limit in
    subst (λ q. IsHosted (cast_of kit version) q (now q) h) (sym number)
    (subst (λ p. IsHosted (cast_of kit version) part.0 p h) (sym process) is)
