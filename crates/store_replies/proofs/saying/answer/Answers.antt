use Rattle.store_replies.proofs.Short.{appended-short}
use Rattle.store_replies.proofs.saying.answer.Goals as goal

pub returns-clause-short : goal.returns-clause-short
returns-clause-short c =
    appended-short _ c.args.payload.now c.new-answer.result.items c.apply.new.answer.items c.apply.ensures.within
    c.in_ok-apply.ensures.answered c.new-answer.ensures.items
