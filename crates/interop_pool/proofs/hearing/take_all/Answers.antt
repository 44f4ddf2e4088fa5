use Rattle.std.proofs.Common.{◌∙◌, ℕ, List, ◌++◌, length, ap, sym, subst}
use Rattle.std.specs.List.{AllByRecursion}
use Rattle.message_defs.specs.Spelling.{IsClaim}
use Rattle.group_defs.specs.Views.{View}
use Rattle.group_defs.specs.Process.{Process}
use Rattle.group_defs.specs.Hearing.{hear}
use Rattle.stmt_codec.specs.Left.{claims_left}
use Rattle.stmt_codec.specs.Views.{claim as claim_of}
use Rattle.claim_pool.specs.Verdicts.{verdict as verdict_of}
use Rattle.claim_hearing.proofs.Heard.{delivered-kept, none-left, one-heard}
use Rattle.interop_pool.specs.Hearers.{setting_with}
use Rattle.interop_pool.proofs.Heard.{all-reported, one-reported}
use Rattle.interop_pool.proofs.hearing.take_all.Goals as goal

pub take-requires-clause-range : goal.take-requires-clause-range
take-requires-clause-range c = (subst (AllByRecursion IsClaim) c.in-Some.ensures.steps c.claims.invariant.range).0

pub take-requires-clause-own : goal.take-requires-clause-own
take-requires-clause-own c = c.claims.invariant.members

pub claims-preserved : goal.claims-preserved
claims-preserved c =
    let range = subst (AllByRecursion IsClaim) c.in-Some.ensures.steps c.claims.invariant.range in
    let s = setting_with c.args.roster.now in
    let d = claim_of c.in-Some.claim in
    record {
      heard = λ p delivered same.
          let so = c.claims.invariant.heard p delivered same in (
            hear s so.0 d,
            delivered-kept s so.0 d c.args.own.now so.1,
            c.in_ok-verdict.ensures.heard so.0 so.1 so.2,
            one-reported s so.0 d (claims_left c.claims.left) (claims_left c.next.new.self) c.claims.out.items
                c.extend_from_slice.new.self.items _ (verdict_of c.in_ok-verdict.verdict) c.in-Some.ensures.steps
                (c.in_ok-verdict.ensures.verdict so.0 so.1 so.2)
                (c.in_ok-extend_from_slice.ensures.items ∙ ap (λ (w : List ℕ). c.claims.out.items ++ w) c.verdict_word.ensures) so.3,
            one-heard s so.0 d (claims_left c.claims.left) (claims_left c.next.new.self) c.in-Some.ensures.steps ∙ so.4,
          );
      range = range.1;
      members = c.claims.invariant.members ∙ ap (λ (v : View). length v.members) (sym c.take.ensures.view);
    }

pub returns-clause-verdicts : goal.returns-clause-verdicts
returns-clause-verdicts c p delivered same =
    let so = c.claims.invariant.heard p delivered same in
    sym (all-reported (setting_with c.args.roster.now) so.0 (claims_left c.claims.left) c.claims.out.items c.in_default.ensures.steps.0) ∙ so.3

pub returns-clause-heard : goal.returns-clause-heard
returns-clause-heard c p delivered same =
    let so = c.claims.invariant.heard p delivered same in
    ap (λ (q : Process). q.pool) (sym so.4
    ∙ none-left (setting_with c.args.roster.now) so.0 (claims_left c.claims.left) c.in_default.ensures.steps.0) ∙ so.2
