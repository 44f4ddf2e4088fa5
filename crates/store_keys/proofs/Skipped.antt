-- What a key signs stays, whichever leaves are passed over.
use Rattle.std.proofs.Common.{◌≡◌, ℕ, List, sym, ap, ◌∙◌}
use Rattle.sig_scheme.specs.declared.any_signer.AnySigner.{AnySigner}
use Rattle.sig_scheme.specs.Signers as signers
use Rattle.sig_scheme.specs.Signers.{SameKey, any_keeps}
use Rattle.store_defs.specs.Keys.{Signs}

-- what a signer signs
abbrev pub signs_in : AnySigner → Signs
signs_in s = record { total = signers.total s; public = signers.public s; signature = signers.signature s }

pub most_kept : (s t : AnySigner) → SameKey s t → signers.sig_len t ≡ signers.sig_len s
most_kept s t same = (any_keeps s t same).length

pub signature_kept : (s t : AnySigner) → SameKey s t → signers.signature t ≡ signers.signature s
signature_kept s t same = (any_keeps s t same).signatures

pub signs_kept : (s t u : AnySigner) → SameKey s t → signers.total t ≡ signers.total s → signers.total u ≡ signers.total t
    → signers.public u ≡ signers.public t → signers.signature u ≡ signers.signature t → signs_in u ≡ signs_in s
signs_kept s t u same total total_now public signature =
    let kept = any_keeps s t same in
    λ i. record {
      total = (total_now ∙ total) i;
      public = (public ∙ kept.public_key) i;
      signature = (signature ∙ kept.signatures) i;
    }
