use Rattle.std.proofs.Common.{subst}
use Rattle.signature_defs.specs.Secrets.{Secret}
use Rattle.sig_scheme.specs.Signers.{IsSignerOf}
use Rattle.schedule_file.specs.Views as views
use Rattle.replay_cast.proofs.Listing.{signer_of_key}
use Rattle.replay_cast.proofs.keyed.signer_of.Goals as goal

pub returns-in-Ok : goal.returns-in-Ok
returns-in-Ok c =
    let P : Secret → Type 0 = λ s. IsSignerOf s c.in-Ok.signer in
    signer_of_key (views.key c.args.key.now) c.in-Ok.signer (subst P c.secret_of.ensures c.in-Ok.ensures.made)
