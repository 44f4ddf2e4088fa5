use Rattle.text_codec.proofs.Digits.{SoFar}
use Rattle.store_wording.proofs.words.value.Given as goal

abbrev pub invariant-digits : goal.invariant-digits
invariant-digits l = SoFar l.n l.digit-index l.word
