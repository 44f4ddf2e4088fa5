use Rattle.std.proofs.Common.{◌≡◌, ◌∙◌, sym, subst}
use Rattle.std.specs.List.{AllByRecursion}
use Rattle.message_defs.specs.Spelling.{IsClaim}
use Rattle.group_defs.specs.Hearing.{hear}
use Rattle.stmt_codec.specs.Left.{claims_left}
use Rattle.stmt_codec.specs.Views.{claim as claim_of}
use Rattle.rule_laws.specs.Heard.{IsPool}
use Rattle.claim_hearing.specs.Hearing.{IsHeard}
use Rattle.claim_hearing.proofs.Heard.{delivered-kept, none-left, one-heard, pool-kept}
use Rattle.claim_hearing.proofs.hearing.hear_all.Goals as goal

pub claims-preserved : goal.claims-preserved
claims-preserved g c =
    let range = subst (AllByRecursion IsClaim) c.in-Some.ensures.steps c.claims.invariant.1 in (
      (λ s p shares pool delivered same pairs.
          let so = c.claims.invariant.0 s p shares pool delivered same pairs in
          let heard = c.in_ok-hear.ensures.heard s so.0 shares so.2 so.3 so.1.pool so.1.pairs in (
            hear s so.0 (claim_of c.in-Some.claim),
            heard,
            subst IsPool heard.pool (pool-kept s so.0 (claim_of c.in-Some.claim) range.0 (subst IsPool (sym so.1.pool) so.2)),
            delivered-kept s so.0 (claim_of c.in-Some.claim) c.args.own.now so.3,
            one-heard s so.0 (claim_of c.in-Some.claim) (claims_left c.claims.left)
                (claims_left c.next.new.self) c.in-Some.ensures.steps ∙ so.4,
          )),
      range.1,
      c.hear.ensures.view ∙ c.claims.invariant.2,
      c.hear.ensures.marked ∙ c.claims.invariant.3,
      c.hear.ensures.marked_pairs ∙ c.claims.invariant.4,
    )

pub returns-clause-heard : goal.returns-clause-heard
returns-clause-heard g c s p shares pool delivered same pairs =
    let so = c.claims.invariant.0 s p shares pool delivered same pairs in
    subst (λ q. IsHeard q c.claims.pool.pool c.claims.conflicts.pairs)
    (sym (none-left s so.0 (claims_left c.claims.left) c.in_default.ensures.steps.0) ∙ so.4) so.1
