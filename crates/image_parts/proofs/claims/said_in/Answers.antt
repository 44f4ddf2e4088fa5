use Rattle.std.proofs.Common.{◌∙◌, [], ap}
use Rattle.image_parts.specs.Walks.{with_all_said}
use Rattle.image_parts.proofs.Gathered.{all-said-is}
use Rattle.image_parts.proofs.claims.said_in.Goals as goal

pub returns : goal.returns
returns c = c.in_ok-put_all_said.ensures ∙ ap (λ cs. with_all_said c.args.number cs c.args.signed.now) c.new-said.ensures.claims
    ∙ all-said-is c.args.number [] c.args.signed.now
