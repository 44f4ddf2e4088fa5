use Rattle.sig_scheme.proofs.any_signer.AnySignerRetract.retract.Goals as goal

pub returns-in-Lms-clause-secret : goal.returns-in-Lms-clause-secret
returns-in-Lms-clause-secret c = rw c.in-Lms.is c.retract-in-Lms.ensures.secret

pub returns-in-Hss-clause-secret : goal.returns-in-Hss-clause-secret
returns-in-Hss-clause-secret c = rw c.in-Hss.is c.retract-in-Hss.ensures.secret
