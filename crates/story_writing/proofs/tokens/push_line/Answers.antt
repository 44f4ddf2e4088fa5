use Rattle.std.proofs.Common.{[], ◌∷◌, map}
use Rattle.story_writing.specs.Tokens.{token}
use Rattle.story_writing.proofs.TokenLines.{all_written, written}
use Rattle.story_writing.proofs.tokens.push_line.Goals as goal

pub returns : goal.returns
returns c = all_written c.end_line.result _ _ (10 ∷ []) _ c.end_line.ensures
    (rw (c.in_ok-push_behind.ensures, c.in_ok-push_word.ensures)
    (written c.args.out.now.items c.args.word.now (map token c.args.tokens.now)))
