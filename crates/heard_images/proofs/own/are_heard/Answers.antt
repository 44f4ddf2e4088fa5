use Rattle.heard_images.proofs.Said.{heard-is}
use Rattle.heard_images.proofs.own.are_heard.Goals as goal

pub returns : goal.returns
returns c = heard-is c.args.pool.now.pool c.args.me c.args.signed.now c.each_is_heard.result c.each_is_heard.ensures
