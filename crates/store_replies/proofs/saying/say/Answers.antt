use Rattle.std.proofs.Common.{◌≤◌, ◌<◌, ◌∙◌, arith}
use Rattle.store_keys.specs.Keys.{signs}
use Rattle.store_records.specs.Views.{reply as reply_of}
use Rattle.store_replies.proofs.Telling.{on-ok, signed-reported, spent-reported}
use Rattle.store_replies.proofs.saying.say.Goals as goal

pub returns-then-leaf-total-clause-reported : goal.returns-then-leaf-total-clause-reported
returns-then-leaf-total-clause-reported c =
    let spent : (signs c.args.key.now).total ≤ c.args.leaf = omega arith in
    on-ok c.push_line.result (spent-reported (signs c.args.key.now) c.args.group.now c.args.leaf (reply_of c.args.reply.now)
    c.args.reply.now.signer spent c.args.out.now.items c.push_line.new.out.items) c.push_line.ensures.pushed

pub returns-clause-reported : goal.returns-clause-reported
returns-clause-reported c =
    let left : c.args.leaf < (signs c.args.key.now).total = omega arith in
    on-ok c.push_hex_line.result (signed-reported (signs c.args.key.now) c.args.group.now c.args.leaf (reply_of c.args.reply.now)
    c.args.reply.now.signer left c.deref.result.now c.deref-2.result.now c.args.out.now.items c.push_hex_line.new.out.items
    (c.deref.ensures.value ∙ c.in_ok-signature.ensures.signed) (c.deref-2.ensures.value ∙ c.in_ok-record.ensures))
    c.push_hex_line.ensures.pushed
