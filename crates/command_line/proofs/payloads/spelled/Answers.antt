use Rattle.command_line.proofs.PayloadWords.{read_payload}
use Rattle.command_line.proofs.payloads.spelled.Goals as goal

pub returns-in-Ok : goal.returns-in-Ok
returns-in-Ok c = λ payload spells. read_payload c.args.word.now _ payload c.in-Ok.ensures.read spells
