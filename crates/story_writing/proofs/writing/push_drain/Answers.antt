use Rattle.std.proofs.Common.{[], ◌∷◌}
use Rattle.std.specs.Prelude.{codes}
use Rattle.rp_base.specs.Pids.{mask_of}
use Rattle.story_defs.specs.Texts.{Word, number, mask_tokens}
use Rattle.story_writing.proofs.TokenLines.{all_written, written_twice}
use Rattle.story_writing.proofs.writing.push_drain.Goals as goal

pub returns : goal.returns
returns c = all_written c.end_line.result _ _ (10 ∷ []) _ c.end_line.ensures
    (rw (c.in_ok-push_mask.ensures, c.in_ok-push_behind.ensures, c.in_ok-begin_line.ensures, c.into.ensures)
    (written_twice c.args.out.now.items (codes "drain") (number c.args.count ∷ Word (codes "to") ∷ []) (mask_tokens (mask_of c.args.to))))
