use Rattle.sig_scheme.proofs.any_signer.AnySignerSigner.sign.Goals as goal

pub returns-in-Lms-clause-secret : goal.returns-in-Lms-clause-secret
returns-in-Lms-clause-secret c = rw c.in-Lms.is c.sign-in-Lms.ensures.secret

pub returns-in-Hss-clause-secret : goal.returns-in-Hss-clause-secret
returns-in-Hss-clause-secret c = rw c.in-Hss.is c.sign-in-Hss.ensures.secret
