use Rattle.std.proofs.Common.{[], ap, ◌∙◌}
use Rattle.claim_firsts.specs.Tables.{Table}
use Rattle.claim_firsts.specs.Entries.{signers_of}
use Rattle.claim_firsts.proofs.Convicting.{all-convicted, put_signers}
use Rattle.claim_firsts.proofs.Entries.{same-signers}
use Rattle.claim_firsts.proofs.firsts.Firsts.convicted.Goals as goal

pub returns : goal.returns
returns c = λ s claims own rising saw.
    c.all_signers.ensures ∙ ap signers_of c.deref.ensures.value ∙ same-signers c.self.inside.seconds.items []
    ∙ ap (λ (t : Table). put_signers [] t.seconds) c.self.view_is ∙ all-convicted s claims own c.args.self.now saw rising
