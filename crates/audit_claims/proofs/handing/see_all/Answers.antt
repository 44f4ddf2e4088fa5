use Rattle.std.proofs.Common.{◌≡◌, List, [], ◌∷◌, ◌++◌, refl, sym, ap, subst}
use Rattle.std.specs.List.{AllByRecursion}
use Rattle.message_defs.specs.Spelling.{IsClaim}
use Rattle.stmt_codec.specs.Left.{claims_left}
use Rattle.stmt_codec.specs.Views.{claim as claim_of}
use Rattle.claim_firsts.specs.Seen.{Saw}
use Rattle.audit_claims.proofs.Frames.{all-seen, none-yet, one-more, still-whole}
use Rattle.audit_claims.proofs.handing.see_all.Goals as goal

pub claims-init : goal.claims-init
claims-init g c = (
  λ s before own to shares saw mine. (
    [],
    subst (λ cs. Saw s cs own c.args.all.now) (none-yet before) saw,
    subst (λ cs. Saw s cs [] c.args.handed.now) (none-yet to) mine,
    refl,
  ),
  c.requires,
)

pub claims-preserved : goal.claims-preserved
claims-preserved g c = (
  λ s before own to shares saw mine.
      let so = c.claims.invariant.0 s before own to shares saw mine in
      let both = c.in_ok-see_valid.ensures.seen s (before ++ so.0) own (to ++ so.0) shares so.1 so.2 in (
        so.0 ++ claim_of c.in-Some.claim ∷ [],
        subst (λ cs. Saw s cs own c.see_valid.new.all) (one-more before so.0 (claim_of c.in-Some.claim)) both.0,
        subst (λ cs. Saw s cs [] c.see_valid.new.handed) (one-more to so.0 (claim_of c.in-Some.claim)) both.1,
        still-whole so.0 (claims_left c.claims.left) (claims_left c.next.new.self) (claims_left c.args.claims) (claim_of c.in-Some.claim)
            c.in-Some.ensures.steps so.3,
      ),
  (subst (AllByRecursion IsClaim) c.in-Some.ensures.steps c.claims.invariant.1).1,
)

pub returns : goal.returns
returns g c = record {
  seen = λ s before own to shares saw mine.
      let so = c.claims.invariant.0 s before own to shares saw mine in
      let whole = all-seen so.0 (claims_left c.claims.left) (claims_left c.args.claims) c.in_default.ensures.steps.0 so.3 in (
        subst (λ cs. Saw s (before ++ cs) own c.claims.all) whole so.1,
        subst (λ cs. Saw s (to ++ cs) [] c.claims.handed) whole so.2,
      );
}
