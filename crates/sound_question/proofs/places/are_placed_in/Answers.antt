use Rattle.std.proofs.Common.{map, sym, ◌∙◌}
use Rattle.accounts.specs.Views.{delivery}
use Rattle.sound_question.proofs.Fronts.{not-placed, placed-where}
use Rattle.sound_question.proofs.places.are_placed_in.Goals as goal

pub returns-then-all_by_place : goal.returns-then-all_by_place
returns-then-all_by_place c =
    c.are_fronts.ensures ∙ placed-where c.args.accounts.now c.args.x (sym c.all_by_place.ensures ∙ c.if-all_by_place.true)
    (map delivery c.longest_in.result.now) c.longest_in.ensures

pub returns-else-all_by_place : goal.returns-else-all_by_place
returns-else-all_by_place c = c.if-all_by_place.false ∙ not-placed c.args.accounts.now c.args.x (sym c.all_by_place.ensures ∙ c.if-all_by_place.false)
