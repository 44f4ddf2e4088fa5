-- What a key signs, and with which leaf next.
use Rattle.std.specs.Prelude.{ℕ}
use Rattle.sig_scheme.specs.Signers as signers
use Rattle.store_defs.specs.Keys.{Signs}
use Rattle.store_keys.specs.declared.key.LeafKey.{LeafKey}

-- what it signs
abbrev pub signs : LeafKey → Signs
signs k = record { total = signers.total k.signer; public = signers.public k.signer; signature = signers.signature k.signer }

-- the first leaf that it may sign with
abbrev pub next : LeafKey → ℕ
next k = signers.used k.signer

-- how many bytes a signature has at most
abbrev pub most : LeafKey → ℕ
most k = signers.sig_len k.signer
