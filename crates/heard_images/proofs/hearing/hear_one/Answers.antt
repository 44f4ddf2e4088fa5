use Rattle.std.proofs.Common.{◌≡◌, ◌∙◌, [], ◌∷◌, sym, ap}
use Rattle.group_defs.specs.Process.{Pool}
use Rattle.member_events.specs.Below.{claim as claim_of}
use Rattle.heard_images.specs.Hearing.{with_more}
use Rattle.heard_images.proofs.New.{is-new, is-none}
use Rattle.heard_images.proofs.hearing.hear_one.Goals as goal

pub returns-in-Heard-clause-new : goal.returns-in-Heard-clause-new
returns-in-Heard-clause-new g c s p shares has same =
    is-new s _ _ _ shares p (claim_of c.args.claim.now) (c.in-Heard.ensures.first p has (same ∙ sym c.reserve.ensures.same))

pub returns-in-Heard-clause-heard : goal.returns-in-Heard-clause-heard
returns-in-Heard-clause-heard g c ok =
    c.in-Heard.ensures.heard ∙ ap (λ (h : Pool). with_more h (claim_of c.args.claim.now ∷ [])) c.reserve.ensures.same

pub returns-in_default-clause-new : goal.returns-in_default-clause-new
returns-in_default-clause-new g c s p shares has same =
    is-none s _ _ _ shares p (claim_of c.args.claim.now) c.take.result c.in_default.not-Heard
    (c.take.ensures.first p has (same ∙ sym c.reserve.ensures.same))
