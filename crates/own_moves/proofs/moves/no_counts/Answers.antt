use Rattle.std.proofs.Common.{◌≡◌, ◌∙◌, ◌≤◌, List, ℕ, sym, ap, subst, take, length}
use Rattle.group_defs.specs.Views.{View}
use Rattle.rule_laws.specs.Placing.{counts_in}
use Rattle.own_moves.proofs.None.{none-counted}
use Rattle.own_moves.proofs.moves.no_counts.Goals as goal

pub returns : goal.returns
returns c =
    let few : length c.args.view.now.members ≤ 16 = c.members.ensures.within.1.few in
    c.truncate.ensures.items
    ∙ ap (λ (ms : List ℕ). take (length ms) c.from-counts.result.items) c.members.ensures.value
    ∙ ap (λ (cs : List ℕ). take (length c.args.view.now.members) cs) c.from-counts.ensures.0
    ∙ none-counted 16 c.args.view.now.members few
