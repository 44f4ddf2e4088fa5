use Rattle.std.proofs.Common.{sym, ◌∙◌, arith}
use Rattle.interop_words.proofs.FieldLaws.{number_none, number_read}
use Rattle.interop_words.proofs.fields.read_number.Goals as goal

pub returns-clause-read : goal.returns-clause-read
returns-clause-read c = rw c.ok_or.ensures.value
    (number_read c.args.least c.args.most c.args.word.now c.number.result c.number.ensures.value)

pub returns-clause-none : goal.returns-clause-none
returns-clause-none c = λ e. number_none c.args.least c.args.most c.args.word.now c.number.result c.number.ensures.value (omega arith)
    (sym c.ok_or.ensures.value ∙ e)
