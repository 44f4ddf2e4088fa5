use Rattle.std.proofs.Common.{◌≡◌, ◌++◌, take}
use Rattle.group_questions.specs.Letters.{letters}
use Rattle.sound_question.specs.Parts.{payloads_of}
use Rattle.sound_question.proofs.acceptance.behind.Given as goal

abbrev pub invariant-loop-d : goal.invariant-loop-d
invariant-loop-d l = payloads_of l.me (letters (take l.d-index l.sequence)) ++ l.left ≡ l.accepted
