use Rattle.store_text_defs.specs.Answers.{said_tokens}
use Rattle.store_telling.proofs.Pieces.{reported_by, said_some}
use Rattle.store_telling.proofs.meanings.tell_said.Goals as goal

pub returns : goal.returns
returns c =
    reported_by c.args.out.now.items _ _ _ (said_tokens c.args.answer.now) (said_some c.args.answer.now) c.in_ok-push.ensures.items c.in_ok-push_said.ensures
    c.in_ok-push-2.ensures.items
