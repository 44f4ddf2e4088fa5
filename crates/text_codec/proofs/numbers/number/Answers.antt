use Rattle.std.proofs.Common.{rules}
use Rattle.text_codec.proofs.Digits.{fails, passes, too_long}
use Rattle.text_codec.proofs.numbers.number.Goals as goal

pub returns-then-word-gt-MOST_DIGITS-clause-value :
    goal.returns-then-word-gt-MOST_DIGITS-clause-value
returns-then-word-gt-MOST_DIGITS-clause-value c = too_long c.args.least c.args.most c.args.word.now (search rules) (search rules)

pub returns-then-spells-clause-value : goal.returns-then-spells-clause-value
returns-then-spells-clause-value c = passes c.args.least c.args.most c.value-n.result c.args.word.now c.value-n.ensures c.if-spells.ensures

pub returns-else-spells-clause-value : goal.returns-else-spells-clause-value
returns-else-spells-clause-value c = fails c.args.least c.args.most c.value-n.result c.args.word.now c.value-n.ensures c.if-spells.ensures
