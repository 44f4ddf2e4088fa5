use Rattle.std.proofs.Common.{◌≡◌, true, false, ◌&&◌, sym, ap, subst, ◌∙◌}
use Rattle.std.specs.List.{list_all, AllByRecursion}
use Rattle.message_defs.specs.Spelling.{IsClaim}
use Rattle.replay_defs.specs.Worlds.{family_of}
use Rattle.stmt_codec.specs.Left.{claims_left}
use Rattle.stmt_codec.specs.Views.{claim as claim_of}
use Rattle.replay_questions.specs.Owned.{is_owned}
use Rattle.replay_questions.proofs.honesty.are_own.Goals as goal

pub is_own-requires : goal.is_own-requires
is_own-requires c = (subst (AllByRecursion IsClaim) c.in-Some.ensures.steps c.claims.invariant.range).0

pub claims-preserved : goal.claims-preserved
claims-preserved c = record {
  rest = λ h v shows.
      let head : is_owned (family_of h v) (claim_of c.in-Some.claim) ≡ true = sym (c.is_own.ensures h v shows) ∙ c.if-not-is_own.false in
      sym (ap (λ b. b && list_all (is_owned (family_of h v)) (claims_left c.next.new.self)) head)
      ∙ (ap (list_all (is_owned (family_of h v))) (sym c.in-Some.ensures.steps) ∙ c.claims.invariant.rest h v shows);
  range = (subst (AllByRecursion IsClaim) c.in-Some.ensures.steps c.claims.invariant.range).1;
}

pub returns-then-not-is_own : goal.returns-then-not-is_own
returns-then-not-is_own c = λ h v shows.
    let head : is_owned (family_of h v) (claim_of c.in-Some.claim) ≡ false = sym (c.is_own.ensures h v shows) ∙ c.if-not-is_own.true in
    sym (ap (λ b. b && list_all (is_owned (family_of h v)) (claims_left c.next.new.self)) head)
    ∙ (ap (list_all (is_owned (family_of h v))) (sym c.in-Some.ensures.steps) ∙ c.claims.invariant.rest h v shows)

pub returns : goal.returns
returns c = λ h v shows. ap (list_all (is_owned (family_of h v))) (sym c.in_default.ensures.steps.0) ∙ c.claims.invariant.rest h v shows
