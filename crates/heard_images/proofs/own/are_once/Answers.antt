use Rattle.std.proofs.lemmas.Result.{IfOk-weaker}
use Rattle.heard_images.proofs.Once.{once-is}
use Rattle.heard_images.proofs.own.are_once.Goals as goal

pub returns : goal.returns
returns c = IfOk-weaker c.are_others.result _ _ (λ b is. once-is c.args.signed.now b is) c.are_others.ensures
