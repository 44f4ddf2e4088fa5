use Rattle.std.proofs.Common.{◌∙◌, ap}
use Rattle.image_parts.specs.Walks.{with_pairs}
use Rattle.image_parts.proofs.Gathered.{pairs-are}
use Rattle.image_parts.proofs.claims.conflicts_of.Goals as goal

pub returns : goal.returns
returns c = λ differ. c.in_ok-keep_each.ensures ∙ ap (λ kept. with_pairs kept c.args.pairs.now) c.new-conflicts.ensures.pairs
    ∙ pairs-are c.args.pairs.now differ
