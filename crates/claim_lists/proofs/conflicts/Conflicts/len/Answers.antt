use Rattle.std.proofs.Common.{◌∙◌, ap, length}
use Rattle.claim_lists.specs.Pairs.{Pairing}
use Rattle.claim_lists.proofs.Paired.{zip-length}
use Rattle.claim_lists.proofs.conflicts.Conflicts.len.Goals as goal

pub returns : goal.returns
returns c = c.len.ensures ∙ zip-length c.self.inside.heard.claims c.self.inside.others.claims c.self.invariant.here.even ∙ ap
    (λ (r : Pairing). length r.pairs) c.self.view_is
