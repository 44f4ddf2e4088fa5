use Rattle.std.proofs.Common.{[], ◌∷◌}
use Rattle.std.specs.Prelude.{codes}
use Rattle.story_defs.specs.Texts.{numbers}
use Rattle.story_writing.proofs.TokenLines.{all_written, written}
use Rattle.story_writing.proofs.headers.push_genesis.Goals as goal

pub returns : goal.returns
returns c = all_written c.end_line.result _ _ (10 ∷ []) _ c.end_line.ensures
    (rw (c.in_ok-push_members.ensures, c.in_ok-begin_line.ensures)
    (written c.args.out.now.items (codes "genesis") (numbers c.args.members.now)))
