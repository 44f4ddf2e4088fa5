use Rattle.std.proofs.Common.{◌≡◌, refl, ap, ◌∙◌, Ok, Err}
use Rattle.frame_codec.specs.Views.{frame_view}
use Rattle.stmt_codec.specs.Left.{claims_left}
use Rattle.chain_defs.specs.Advance.{proof_said, proof_by, proof_of}
use Rattle.chain_check.proofs.chain.proof_claims.Goals as goal

pub returns-in-Err-clause-exact : goal.returns-in-Err-clause-exact
unfolding proof_said
returns-in-Err-clause-exact c = ap proof_by c.in-Err.ensures.exact

pub returns-in-Err-claims_of-clause-exact : goal.returns-in-Err-claims_of-clause-exact
unfolding proof_said
returns-in-Err-claims_of-clause-exact c = ap proof_by c.in-Ok.ensures.exact
    ∙ ap (proof_of (frame_view c.in-Ok.frame)) c.in-Err-claims_of.ensures.exact

pub returns-in-Proof-clause-exact : goal.returns-in-Proof-clause-exact
unfolding proof_said
returns-in-Proof-clause-exact c = ap proof_by c.in-Ok.ensures.exact
    ∙ ap (proof_of (frame_view c.in-Ok.frame)) c.in-Ok-claims_of.ensures.exact
    ∙ ap (λ f. proof_of (frame_view f) (Ok (claims_left c.in-Ok-claims_of.claims))) c.in-Proof.is

pub returns-in-Bundle-clause-exact : goal.returns-in-Bundle-clause-exact
unfolding proof_said
returns-in-Bundle-clause-exact c = ap proof_by c.in-Ok.ensures.exact
    ∙ ap (proof_of (frame_view c.in-Ok.frame)) c.in-Ok-claims_of.ensures.exact
    ∙ ap (λ f. proof_of (frame_view f) (Ok (claims_left c.in-Ok-claims_of.claims))) c.in-Bundle.is

pub returns-in-Want-clause-exact : goal.returns-in-Want-clause-exact
unfolding proof_said
returns-in-Want-clause-exact c = ap proof_by c.in-Ok.ensures.exact
    ∙ ap (proof_of (frame_view c.in-Ok.frame)) c.in-Ok-claims_of.ensures.exact
    ∙ ap (λ f. proof_of (frame_view f) (Ok (claims_left c.in-Ok-claims_of.claims))) c.in-Want.is
