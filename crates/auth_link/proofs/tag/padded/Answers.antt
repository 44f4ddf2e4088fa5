use Rattle.std.proofs.Common.{List, ℕ, ◌++◌, ◌∙◌, ap, length, replicate, drop}
use Rattle.std.proofs.lemmas.List.{drop-replicate}
use Rattle.link_defs.specs.Hmac.{block_bytes}
use Rattle.auth_link.proofs.tag.padded.Goals as goal

pub returns : goal.returns
unfolding block_bytes
returns c = ap (λ (l : List ℕ). l ++ drop (length c.args.bytes.now) (replicate 64 0)) c.copy_from_slice.ensures.after ∙ ap
    (λ (l : List ℕ). c.args.bytes.now ++ l) (drop-replicate (length c.args.bytes.now) 64 0)
