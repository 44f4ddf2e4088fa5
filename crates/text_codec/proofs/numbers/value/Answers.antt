use Rattle.std.proofs.Common.{rules}
use Rattle.text_codec.proofs.Digits.{one_more, whole}
use Rattle.text_codec.proofs.numbers.value.Goals as goal

pub loop-digit-preserved : goal.loop-digit-preserved
loop-digit-preserved c = one_more c.loop-digit.n c.args.word.now c.loop-digit.digit-index c.from.result (search rules) (search rules)
    (search rules) c.loop-digit.invariant

pub returns : goal.returns
returns c = whole c.loop-digit.n c.args.word.now c.loop-digit.digit-index (search rules) c.loop-digit.invariant
