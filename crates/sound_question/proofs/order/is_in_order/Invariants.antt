use Rattle.std.proofs.Common.{take}
use Rattle.group_questions.specs.Letters.{letters}
use Rattle.sound_question.proofs.Counted.{IsCounted}
use Rattle.sound_question.proofs.order.is_in_order.Given as goal

abbrev pub invariant-loop-d : goal.invariant-loop-d
invariant-loop-d l = IsCounted l.counts (letters (take l.d-index l.sequence))
