use Rattle.std.proofs.Common.{◌≡◌, map, drop}
use Rattle.accounts.specs.Views.{delivery}
use Rattle.sound_question.specs.Parts.{steps}
use Rattle.sound_question.proofs.places.has_steps.Given as goal

abbrev pub invariant-loop-d : goal.invariant-loop-d
invariant-loop-d l = steps l.places l.messages (map delivery (drop l.d-index l.delivered)) ≡ steps 0 0 (map delivery l.delivered)
