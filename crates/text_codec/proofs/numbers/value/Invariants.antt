use Rattle.text_codec.proofs.Digits.{SoFar}
use Rattle.text_codec.proofs.numbers.value.Given as goal

abbrev pub invariant-loop-digit : goal.invariant-loop-digit
invariant-loop-digit l = SoFar l.n l.digit-index l.word
