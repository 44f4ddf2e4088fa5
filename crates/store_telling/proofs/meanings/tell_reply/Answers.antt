use Rattle.std.proofs.Common.{arith}
use Rattle.store_records.specs.Views.{reply}
use Rattle.store_text_defs.specs.Meanings.{reply_tokens}
use Rattle.store_telling.proofs.Pieces.{reported_by}
use Rattle.store_telling.proofs.meanings.tell_reply.Goals as goal

pub returns : goal.returns
returns c =
    reported_by c.args.out.now.items _ _ _ (reply_tokens (reply c.args.reply.now)) (omega arith) c.in_ok-push.ensures.items c.in_ok-push_reply.ensures
    c.in_ok-push-2.ensures.items
