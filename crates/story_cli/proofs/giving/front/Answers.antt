use Rattle.std.proofs.Common.{ℕ, take, ap, ◌∙◌}
use Rattle.std.proofs.lemmas.List.{take_min}
use Rattle.story_cli.proofs.giving.front.Goals as goal

pub returns : goal.returns
returns c =
    c.split_at.ensures.front ∙ ap (λ (k : ℕ). take k c.args.input.now) c.min.ensures ∙ take_min 3 c.args.input.now
