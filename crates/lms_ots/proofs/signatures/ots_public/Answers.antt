use Rattle.std.proofs.Common.{◌<◌, ◌∙◌, ◌++◌, ℕ, List, [], slice_index_or, ap, arith}
use Rattle.sha2.specs.Sha256.{sha256}
use Rattle.signature_defs.specs.Strings.{u16str, u32str}
use Rattle.signature_defs.specs.LmOts.{D_PBLC, chain, chain_head, ots_chains, ots_steps, secret}
use Rattle.signature_defs.proofs.StringLaws.{same_strings}
use Rattle.lms_ots.proofs.signatures.ots_public.Goals as goal

pub returns : goal.returns
returns c =
    let key : List ℕ = c.args.id.now ++ u32str c.args.q in
    let end : ℕ → List ℕ = λ (i : ℕ). chain (chain_head c.args.id.now c.args.q i) 0 (ots_steps c.args.kind)
    (secret c.args.id.now c.args.q c.args.seed.now i) in
    let same = same_strings (λ (i : ℕ). slice_index_or c.walk_alike-ends.result i []) end (ots_chains c.args.kind)
    (λ i among.
    let low : i < c.ots_chains-count.result = omega arith in
    c.walk_alike-ends.ensures i low ∙ rw (c.secrets-starts.ensures i low, c.key_head-key.ensures, c.ots_steps.ensures)) in
    c.hash_of_ends.ensures ∙ rw (c.key_head-key.ensures, c.ots_chains-count.ensures.value)
    (ap (λ (s : List ℕ). sha256 (key ++ u16str D_PBLC ++ s)) same)
