-- The key that is made of an HSS secret is its signer.
use Rattle.std.proofs.Common.{◌≡◌, ℕ, List, refl, sym, ap, ◌∙◌}
use Rattle.std.specs.Option.{unwrap_or}
use Rattle.signature_defs.specs.declared.OtsType.{OtsType}
use Rattle.signature_defs.specs.Lms.{lms_height_of}
use Rattle.signature_defs.specs.Hss.{HssSecret, hss_public_key, hss_signature, hss_signature_length, hss_total}
use Rattle.signature_defs.specs.Secrets as secrets
use Rattle.signature_defs.specs.Secrets.{height_of, hss_secret}
use Rattle.lms_hss.specs.declared.key.HssKey.{HssKey}
use Rattle.lms_hss.specs.Plans.{secret}
use Rattle.lms_hss.specs.Key.{IsMadeFrom}
use Rattle.sig_scheme.specs.declared.any_signer.AnySigner.TheVariants.{Hss}
use Rattle.sig_scheme.specs.Signers.{IsSignerOf}

module _ (levels typecode : ℕ) (ots : OtsType) (id seed : List ℕ) (key : HssKey) (made : IsMadeFrom levels typecode ots id seed key) where
  height_is : key.plan.height ≡ height_of typecode
  height_is = sym (ap (λ o. unwrap_or o 0) (ap lms_height_of (sym made.plan.has_typecode) ∙ key.plan.known))

  -- its trees are made from the secret
  same : secret key.plan ≡ hss_secret levels typecode ots id seed
  same = λ i. record {
    levels = made.plan.has_levels i;
    code = made.plan.has_typecode i;
    kind = made.plan.has_ots i;
    h = height_is i;
    id = made.plan.has_id i;
    seed = made.plan.has_seed i;
  }

  pub hss_signer : IsSignerOf (secrets.Hss levels typecode ots id seed) (Hss key)
  hss_signer = record {
    unused = made.unused;
    has_total = ap hss_total same;
    has_key = ap hss_public_key same;
    has_length = ap (λ (s : HssSecret). hss_signature_length s.levels s.kind s.h) same;
    signs = ap (λ (s : HssSecret). λ (q : ℕ). λ (body : List ℕ). hss_signature s q body) same;
    rule = refl;
  }
