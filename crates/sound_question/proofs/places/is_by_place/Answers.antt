use Rattle.std.proofs.Common.{map, ◌∙◌}
use Rattle.accounts.specs.Views.{delivery}
use Rattle.sound_question.proofs.Steps.{steps-stands}
use Rattle.sound_question.proofs.places.is_by_place.Goals as goal

pub returns : goal.returns
returns c = c.has_steps.ensures ∙ steps-stands (map delivery c.args.delivered.now)
