use Rattle.std.proofs.Common.{sym, arith}
use Rattle.command_line.proofs.Words.{few_words, many_words}
use Rattle.command_line.proofs.commands.of_other_words.Goals as goal

pub returns-in-len3 : goal.returns-in-len3
returns-in-len3 c = sym (few_words c.args.words.now (omega arith) (omega arith))

pub returns-in-len4 : goal.returns-in-len4
returns-in-len4 c = sym (few_words c.args.words.now (omega arith) (omega arith))

pub returns-in_default : goal.returns-in_default
returns-in_default c = sym (many_words c.args.words.now (omega arith))
