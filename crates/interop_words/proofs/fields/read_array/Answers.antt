use Rattle.std.proofs.Common.{sym, ◌∙◌}
use Rattle.interop_words.proofs.FieldLaws.{array_none, array_read}
use Rattle.interop_words.proofs.fields.read_array.Goals as goal

pub returns-clause-read : goal.returns-clause-read
returns-clause-read g c = rw c.ok_or.ensures.value (array_read _ c.args.word.now c.bytes.result c.bytes.ensures)

pub returns-clause-none : goal.returns-clause-none
returns-clause-none g c = λ e. array_none _ c.args.word.now c.bytes.result c.bytes.ensures (sym c.ok_or.ensures.value ∙ e)
