use Rattle.std.proofs.Common.{[], ◌∷◌}
use Rattle.std.specs.Prelude.{codes}
use Rattle.story_defs.specs.Words.{scheme_word}
use Rattle.story_defs.specs.Texts.{Bytes, Word, limit_tokens}
use Rattle.story_writing.proofs.TokenLines.{all_written, written_twice}
use Rattle.story_writing.proofs.headers.push_group.Goals as goal

pub returns : goal.returns
returns c =
    let header = c.args.header.now in
    all_written c.end_line.result _ _ (10 ∷ []) _ c.end_line.ensures
    (rw (c.in_ok-push_limit.ensures, c.in_ok-push_behind.ensures, c.in_ok-begin_line.ensures, c.bytes.ensures.value, c.scheme_word.ensures)
    (written_twice c.args.out.now.items (codes "group") (Bytes header.group ∷ Word (scheme_word header.scheme) ∷ [])
    (limit_tokens header.batch)))
