use Rattle.std.proofs.Common.{◌∙◌, ap}
use Rattle.claim_lists.specs.Pairs.{Pairing, has_pair}
use Rattle.claim_lists.proofs.Paired.{noted-is}
use Rattle.claim_lists.proofs.conflicts.Conflicts.has_pair.Goals as goal

pub returns : goal.returns
returns c =
    c.contains.ensures ∙ noted-is c.self.inside.heard.claims c.self.inside.others.claims c.self.inside.signers c.self.invariant.here
    c.args.signer
    ∙ ap (λ (r : Pairing). has_pair r.pairs c.args.signer) c.self.view_is
