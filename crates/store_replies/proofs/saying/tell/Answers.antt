use Rattle.std.proofs.Common.{ℕ, Vec, Global}
use Rattle.store_keys.specs.Keys.{signs}
use Rattle.store_records.specs.Views.{reply as reply_of}
use Rattle.store_replies.proofs.Telling.{none-reported, on-ok}
use Rattle.store_replies.proofs.saying.tell.Goals as goal

pub returns-in_default-clause-reported : goal.returns-in_default-clause-reported
returns-in_default-clause-reported c =
    on-ok c.push_line.result (none-reported (signs c.args.key.now) c.args.group.now c.args.leaf (reply_of c.args.asked.now)
    c.args.asked.now.signer (λ (b : Vec ℕ Global). b.items) c.args.answer.now c.in_default.is c.args.out.now.items
    c.push_line.new.out.items) c.push_line.ensures.pushed
