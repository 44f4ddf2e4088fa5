use Rattle.std.proofs.Common.{[], ◌∷◌, ◌++◌}
use Rattle.std.specs.Prelude.{codes}
use Rattle.rp_base.specs.Pids.{mask_of}
use Rattle.story_defs.specs.Texts.{Word, number, mask_tokens, statement_tokens}
use Rattle.story_writing.specs.Tokens.{behind}
use Rattle.story_writing.proofs.TokenLines.{all_written, written_thrice}
use Rattle.story_writing.proofs.writing.push_lie.Goals as goal

pub returns : goal.returns
returns c =
    let said = Word (codes ":") ∷ statement_tokens c.args.statement.now in
    all_written c.push_said.result _ _ (behind said ++ 10 ∷ []) _ c.push_said.ensures
    (rw (c.in_ok-push_mask.ensures, c.in_ok-push_behind.ensures, c.in_ok-begin_line.ensures, c.into.ensures, c.get.ensures.value)
    (written_thrice c.args.out.now.items (codes "lie") (number c.args.signer ∷ Word (codes "to") ∷ [])
    (mask_tokens (mask_of c.args.to)) said))
