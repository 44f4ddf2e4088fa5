use Rattle.std.proofs.Common.{◌∙◌, ap}
use Rattle.group_defs.specs.Events.{refusal}
use Rattle.member_state.specs.Events.{event as event_of}
use Rattle.member_taking.proofs.refusals.admit_running.Goals as goal

pub returns-in-Submit-clause-exactly : goal.returns-in-Submit-clause-exactly
returns-in-Submit-clause-exactly c s p is running = ap
    (λ e. refusal s p (event_of e)) c.in-Submit.is ∙ c.admit_payload.ensures.exactly s p is running

pub returns-in-Frame-clause-exactly : goal.returns-in-Frame-clause-exactly
returns-in-Frame-clause-exactly c s p is running = ap
    (λ e. refusal s p (event_of e)) c.in-Frame.is ∙ c.admit_frame.ensures.exactly s p running

pub returns-in-Suspect-clause-exactly : goal.returns-in-Suspect-clause-exactly
returns-in-Suspect-clause-exactly c s p is running = ap
    (λ e. refusal s p (event_of e)) c.in-Suspect.is ∙ c.admit_update.ensures.exactly s p is running

pub returns-in-Renew-clause-exactly : goal.returns-in-Renew-clause-exactly
returns-in-Renew-clause-exactly c s p is running = ap
    (λ e. refusal s p (event_of e)) c.in-Renew.is ∙ c.admit_update-in-Renew.ensures.exactly s p is running
