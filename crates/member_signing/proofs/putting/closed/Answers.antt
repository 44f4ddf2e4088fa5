use Rattle.std.proofs.Common.{subst}
use Rattle.member_state.specs.Below.{IsIn, Phase}
use Rattle.member_signing.proofs.Open.{end-of-view, end-where-open}
use Rattle.member_signing.proofs.putting.closed.Goals as goal

pub returns-in-OpenView-clause-closes : goal.returns-in-OpenView-clause-closes
returns-in-OpenView-clause-closes c s signer p x may is =
    end-of-view s signer p x c.args.length c.close.result may
    (c.close.ensures.closes s signer p (subst (λ (phase : Phase). IsIn phase p) c.in-OpenView.is is))

pub returns-in_default-clause-closes : goal.returns-in_default-clause-closes
returns-in_default-clause-closes c s signer p x may is = absurd
    (end-where-open c.args.phase s p x c.args.length c.requires may is c.in_default.not-OpenView)
