-- The signer of a hosted process, before it signs.
use Rattle.std.proofs.Common.{◌≡◌, ℕ, List, [], Option, None, Some, refl, sym, ap, ◌∙◌}
use Rattle.std.specs.Prelude.{IsSomeAnd}
use Rattle.std.specs.Option.{option_map_or}
use Rattle.signature_defs.specs.Secrets.{total_of, signature_of}
use Rattle.kit_defs.specs.Kits.{Host, Kit}
use Rattle.node_defs.specs.Casts.{host_of}
use Rattle.sig_scheme.specs.declared.any_signer.AnySigner.{AnySigner}
use Rattle.sig_scheme.specs.Signers.{IsSignerOf, used, total, signature}
use Rattle.node_images.specs.Judging.{signer_of, total_in}

abbrev signature_by : Option Host → ℕ → List ℕ → List ℕ
signature_by o used body = option_map_or (λ h. signature_of h.secret used body) o []

-- it has signed nothing, and is the kit's
pub record IsNew (kit : Kit) (p : ℕ) (s : AnySigner) : Type 0 where
  pub unused : used s ≡ 0
  pub total : total s ≡ total_in kit p
  pub signs : signature s ≡ signer_of kit p

pub new-signer : (kit : Kit) (p : ℕ) (s : AnySigner) → IsSomeAnd (host_of kit p) (λ host. IsSignerOf host.secret s) → IsNew kit p s
new-signer kit p s is = go (host_of kit p) refl is
  where
    go : (o : Option Host) → host_of kit p ≡ o → IsSomeAnd o (λ host. IsSignerOf host.secret s) → IsNew kit p s
    go None e made = absurd made
    go (Some h) e made = record {
      unused = made.unused;
      total = made.has_total ∙ sym (ap (λ (o : Option Host). option_map_or (λ g. total_of g.secret) o 0) e);
      signs = made.signs ∙ sym (ap signature_by e);
    }
