use Rattle.std.proofs.Common.{◌∙◌, ap, slice_get}
use Rattle.std.specs.Option.{option_map}
use Rattle.claim_lists.specs.Pairs.{Pairing}
use Rattle.claim_lists.proofs.Paired.{zip-first}
use Rattle.claim_lists.proofs.conflicts.Conflicts.heard_at.Goals as goal

pub returns : goal.returns
returns c =
    c.get.ensures ∙ zip-first c.self.inside.heard.claims c.self.inside.others.claims c.args.place c.self.invariant.here.even
    ∙ ap (λ (r : Pairing). option_map (λ pair. pair.0) (slice_get r.pairs c.args.place)) c.self.view_is
