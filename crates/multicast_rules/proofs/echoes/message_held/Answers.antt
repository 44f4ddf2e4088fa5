use Rattle.std.proofs.Common.{◌∙◌, ap}
use Rattle.group_defs.specs.Views.{View}
use Rattle.stmt_codec.specs.Views.{message}
use Rattle.pool_questions.specs.Certificates.{content_of}
use Rattle.multicast_rules.proofs.Certified.{held-is}
use Rattle.multicast_rules.proofs.echoes.message_held.Goals as goal

pub returns : goal.returns
returns c =
    c.is_some.ensures
    ∙ held-is c.args.pool.now.pool (message c.args.sender c.args.number) c.number-view.result content_of c.certificate.result
    (c.number-view.ensures.value ∙ ap (λ (v : View). v.number) c.view.ensures) c.certificate.ensures.content
