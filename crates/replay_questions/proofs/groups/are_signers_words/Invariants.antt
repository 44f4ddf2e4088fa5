use Rattle.std.proofs.Common.{◌≡◌, length}
use Rattle.frame_codec.specs.Views.{signatures_left}
use Rattle.replay_questions.proofs.ReportedWords.{all_words}
use Rattle.replay_questions.proofs.groups.are_signers_words.Given as goal

abbrev pub invariant-signatures : goal.invariant-signatures
invariant-signatures l = all_words l.players l.statement (signatures_left l.left)
    ≡ all_words l.players l.statement (signatures_left l.fn.signatures)

abbrev pub decreases-signatures : goal.decreases-signatures
decreases-signatures l = length (signatures_left l.left)
