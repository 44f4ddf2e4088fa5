use Rattle.std.proofs.Common.{◌≡◌, ◌<◌, ◌∙◌, ◌++◌, ℕ, List, [], Some, slice_index_or, ap, arith}
use Rattle.std.specs.Option.{option_map}
use Rattle.sha2.specs.Sha256.{sha256}
use Rattle.signature_defs.specs.declared.OtsType.{OtsType}
use Rattle.signature_defs.specs.Strings.{part, u16str, u32str}
use Rattle.signature_defs.specs.LmOts.{D_PBLC, candidate_by, message_hash, ots_chains, reached_end}
use Rattle.signature_defs.proofs.StringLaws.{same_strings}
use Rattle.lms_ots.proofs.signatures.ots_candidate.Goals as goal

pub returns : goal.returns
returns c =
    let id : List ℕ = c.args.id.now in
    let sig : List ℕ = c.args.sig.now in
    let kind : OtsType = c.in_ok-kind.kind in
    let by : OtsType → List ℕ = λ (k : OtsType). candidate_by k id c.args.q c.args.message.now sig in
    let end : ℕ → List ℕ = reached_end kind id c.args.q (message_hash id c.args.q (part 4 32 sig) c.args.message.now) sig in
    let same = same_strings (λ (i : ℕ). slice_index_or c.walk_by_length-ends.result i []) end (ots_chains kind)
    (λ i among.
    let low : i < c.ots_chains-count.result = omega arith in
    c.walk_by_length-ends.ensures i low
    ∙ rw (
      c.values_of.ensures i low,
      c.same.ensures i (omega arith),
      c.from.ensures,
      c.all.ensures.value i (omega arith),
      c.new-digits.ensures,
      c.message_hash.ensures,
      c.key_head-key.ensures,
      c.ots_steps.ensures,
    )) in
    let hash : c.hash_of_ends.result ≡ by kind =
    c.hash_of_ends.ensures ∙ rw (c.key_head-key.ensures, c.ots_chains-count.ensures.value)
    (ap (λ (s : List ℕ). sha256 (id ++ u32str c.args.q ++ u16str D_PBLC ++ s)) same) in
    ap (λ (k : List ℕ). Some k) hash ∙ ap (option_map by) c.in_ok-kind.ensures
