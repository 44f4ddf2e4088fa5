use Rattle.std.proofs.Common.{sym, ◌∙◌, arith}
use Rattle.frame_codec.specs.Views.{signatures_left}
use Rattle.replay_questions.specs.Words.{group_of}
use Rattle.replay_questions.proofs.ReportedWords.{group_words}
use Rattle.replay_questions.proofs.groups.is_group_of_words.Goals as goal

pub returns : goal.returns
returns c = λ is carries.
    group_words c.args.players.now carries (group_of c.args.statement.now (signatures_left c.args.signatures))
    (λ i. omega (arith, c.type_inv.statement i)) (sym c.are_signers_words.ensures ∙ is)
