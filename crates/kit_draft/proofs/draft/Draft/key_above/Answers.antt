use Rattle.std.proofs.Common.{ℕ, List, ap, ◌∙◌, nat_lt}
use Rattle.std.specs.List.{list_any}
use Rattle.kit_draft.proofs.Repeats.{any_map}
use Rattle.kit_draft.proofs.draft.Draft.key_above.Goals as goal

pub returns : goal.returns
returns c = rw (← c.self.view_is)
    (c.has_above.ensures ∙ ap (λ ps. list_any (λ q. nat_lt c.args.p q) ps) c.processes.ensures.value ∙ any_map (λ (k : ℕ × List ℕ). k.0)
    (λ q. nat_lt c.args.p q) c.self.inside.roster)
