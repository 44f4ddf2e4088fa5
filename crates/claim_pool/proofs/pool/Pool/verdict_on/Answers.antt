use Rattle.std.proofs.Common.{◌≡◌, ◌∙◌, ap, sym}
use Rattle.std.specs.Prelude.{unwrap_or}
use Rattle.byte_defs.specs.Choices.{first_that_holds}
use Rattle.group_defs.specs.Process as defs
use Rattle.group_defs.specs.Hearing as hearing
use Rattle.stmt_codec.specs.Views.{claim}
use Rattle.own_place.specs.Claims.{Holding}
use Rattle.claim_pool.specs.Settings.{as_setting}
use Rattle.claim_pool.specs.Verdicts.{late_tests}
use Rattle.claim_pool.proofs.Judged.{stays}
use Rattle.claim_pool.proofs.pool.Pool.verdict_on.Goals as goal

pub returns-in-Some-clause-fresh : goal.returns-in-Some-clause-fresh
returns-in-Some-clause-fresh g c is = absurd (c.in-Some.ensures.unheard is)

pub returns-in-None-clause-first : goal.returns-in-None-clause-first
returns-in-None-clause-first g c p has same =
    let s : defs.Setting = as_setting (g.V.Scheme.valid c.args.scheme.now) c.args.group.now c.args.roster.now in
    let pool : c.quorums-quorums.result.now.pool
    ≡ c.args.self.now.pool = ap (λ (r : Holding). r.pool) (c.quorums-quorums.ensures ∙ c.self.view_is) in
    let view : c.view.result.now ≡ c.args.self.now.pool.view = c.view.ensures ∙ ap (λ (h : defs.Pool). h.view) (c.claims.ensures ∙ pool) in
    stays s p (claim c.args.claim.now) c.args.self.now.pool _ same
    (c.in-None.ensures.first p has (ap (λ (h : defs.Pool). h.view) same ∙ sym view))
    (c.heard_verdict.ensures.value ∙ ap
    (λ (h : defs.Pool). unwrap_or (first_that_holds (late_tests s h (claim c.args.claim.now))) hearing.Heard) pool)
