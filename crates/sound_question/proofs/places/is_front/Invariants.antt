use Rattle.std.proofs.Common.{◌≡◌, map, drop}
use Rattle.accounts.specs.Views.{delivery}
use Rattle.sound_question.specs.Parts.{front}
use Rattle.sound_question.proofs.places.is_front.Given as goal

abbrev pub invariant-loop-d : goal.invariant-loop-d
invariant-loop-d l = front l.places (map delivery (drop l.d-index l.own)) (map delivery l.rest)
    ≡ front 0 (map delivery l.own) (map delivery l.all)
