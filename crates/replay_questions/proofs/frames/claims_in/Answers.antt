use Rattle.std.proofs.Common.{Ok, ap, ◌∙◌}
use Rattle.group_defs.specs.Events.{Hand}
use Rattle.group_defs.specs.Family.{claims_in}
use Rattle.frame_codec.specs.Views.{frame_view}
use Rattle.stmt_codec.specs.Left.{claims_left}
use Rattle.frame_codec.proofs.Said.{said-fault, said-claims-fault, said-claims}
use Rattle.replay_questions.proofs.Wants.{want_none}
use Rattle.replay_questions.proofs.frames.claims_in.Goals as goal

pub returns-in-Err-clause-none : goal.returns-in-Err-clause-none
returns-in-Err-clause-none c = ap (λ f. claims_in (Hand 0 f)) (said-fault c.args.bytes.now _ c.in-Err.ensures.exact)

pub returns-in-Err-claims_of-clause-none : goal.returns-in-Err-claims_of-clause-none
returns-in-Err-claims_of-clause-none c = ap (λ f. claims_in (Hand 0 f))
    (said-claims-fault c.args.bytes.now (frame_view c.in-Ok.frame) _ c.in-Ok.ensures.exact c.in-Err-claims_of.ensures.exact)

pub returns-in-Want-clause-none : goal.returns-in-Want-clause-none
returns-in-Want-clause-none c = want_none c.args.bytes.now c.in-Want.view c.in-Want.place
    (c.in-Ok.ensures.exact ∙ ap (λ f. Ok (frame_view f)) c.in-Want.is)

pub returns-in_default-clause-claims : goal.returns-in_default-clause-claims
returns-in_default-clause-claims c =
    ap (λ f. claims_in (Hand 0 f))
    (said-claims c.args.bytes.now c.in-Ok.frame
    (claims_left c.in-Ok-claims_of.claims) c.in_default.not-Want c.in-Ok.ensures.exact c.in-Ok-claims_of.ensures.exact)
