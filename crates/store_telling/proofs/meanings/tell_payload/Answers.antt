use Rattle.store_text_defs.specs.Meanings.{payload_tokens}
use Rattle.store_telling.proofs.Pieces.{reported_by, payload_some}
use Rattle.store_telling.proofs.meanings.tell_payload.Goals as goal

pub returns : goal.returns
returns c =
    reported_by c.args.out.now.items _ _ _ (payload_tokens c.args.payload.now) (payload_some c.args.payload.now) c.in_ok-push.ensures.items c.in_ok-push_payload.ensures
    c.in_ok-push-2.ensures.items
