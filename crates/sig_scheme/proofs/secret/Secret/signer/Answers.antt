use Rattle.sig_scheme.proofs.LevelSigners.{hss_signer}
use Rattle.sig_scheme.proofs.secret.Secret.signer.Goals as goal

pub returns-in_ok-make-in-Hss-clause-made : goal.returns-in_ok-make-in-Hss-clause-made
returns-in_ok-make-in-Hss-clause-made c = rw c.in-Hss.is
    (hss_signer c.in-Hss.levels c.in-Hss.height c.in-Hss.ots c.in-Hss.id c.in-Hss.seed c.in_ok-make-in-Hss.field-0
    c.in_ok-make-in-Hss.ensures.made)
