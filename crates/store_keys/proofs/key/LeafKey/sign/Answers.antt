use Rattle.std.proofs.Common.{◌∙◌}
use Rattle.store_keys.proofs.Skipped.{signature_kept, signs_kept}
use Rattle.store_keys.proofs.key.LeafKey.sign.Goals as goal

pub returns-clause-signed : goal.returns-clause-signed
returns-clause-signed c =
    c.in-Ok.ensures.written.1
    ∙ (λ i. signature_kept c.args.self.now.signer c.skip_to.new.self c.skip_to.ensures.key i (c.skip_to.ensures.used i) c.args.body.now)

pub returns-clause-signs : goal.returns-clause-signs
returns-clause-signs c = signs_kept c.args.self.now.signer c.skip_to.new.self c.sign.new.self c.skip_to.ensures.key c.skip_to.ensures.total
    c.in-Ok.ensures.total c.in-Ok.ensures.key c.in-Ok.ensures.secret
