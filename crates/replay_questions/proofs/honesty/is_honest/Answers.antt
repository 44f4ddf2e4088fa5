use Rattle.std.proofs.Common.{sym, subst, ◌∙◌}
use Rattle.std.specs.List.{AllByRecursion}
use Rattle.replay_world.specs.Handing.{claims_of}
use Rattle.replay_questions.specs.Words.{IsWord}
use Rattle.replay_questions.proofs.Whole.{words_owned}
use Rattle.replay_questions.proofs.honesty.is_honest.Goals as goal

pub returns-then-is_frame_of_words : goal.returns-then-is_frame_of_words
returns-then-is_frame_of_words c = λ h v shows.
    let bytes = c.args.bytes.now in
    let words = c.is_frame_of_words.ensures c.if-is_frame_of_words.true in
    c.if-is_frame_of_words.true ∙ sym (words_owned h c.args.world.now v shows (claims_of bytes)
    (subst (λ ps. AllByRecursion (IsWord ps) (claims_of bytes)) c.players.ensures words))
