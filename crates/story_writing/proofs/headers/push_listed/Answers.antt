use Rattle.std.proofs.Common.{[], ◌∷◌}
use Rattle.std.specs.Prelude.{codes}
use Rattle.schedule_file.specs.Views.{key}
use Rattle.story_defs.specs.Texts.{Word, number, role_word, key_tokens}
use Rattle.story_writing.proofs.TokenLines.{all_written, written_twice}
use Rattle.story_writing.proofs.headers.push_listed.Goals as goal

pub returns : goal.returns
returns c =
    let listed = c.args.listed.now in
    all_written c.end_line.result _ _ (10 ∷ []) _ c.end_line.ensures
    (rw (
      c.in_ok-push_key.ensures,
      c.in_ok-push_behind.ensures,
      c.in_ok-begin_line.ensures,
      c.role_word.ensures,
      c.into.ensures,
      c.get.ensures.value,
    )
    (written_twice c.args.out.now.items (codes "process") (number listed.process ∷ Word (role_word listed.corrupt) ∷ [])
    (key_tokens listed.process (key listed.key))))
