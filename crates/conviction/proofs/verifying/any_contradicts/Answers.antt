use Rattle.std.proofs.Common.{◌≡◌, ◌∙◌, false, sym, subst, arith, ◌≤◌, length}
use Rattle.std.specs.Prelude.{◌&&◌}
use Rattle.std.specs.List.{list_any}
use Rattle.std.proofs.lemmas.List.{take_all}
use Rattle.message_defs.specs.Spelling.{IsClaim}
use Rattle.group_defs.specs.Hearing.{is_valid}
use Rattle.stmt_codec.specs.Views.{claim as claim_of}
use Rattle.claim_pool.specs.Settings.{as_setting}
use Rattle.conviction_defs.specs.Convictions.{is_conflict}
use Rattle.conviction.specs.Own.{all_kept, kept}
use Rattle.conviction.proofs.Walking.{at-is, none-more, some-here}
use Rattle.conviction.proofs.verifying.any_contradicts.Goals as goal

pub contradicts-requires : goal.contradicts-requires
contradicts-requires g c =
    (at-is kept c.args.claims.now c.loop-own.own-index c.own-item.result c.loop-own-test.true c.own-item.is IsClaim c.requires).1

pub loop-own-preserved : goal.loop-own-preserved
loop-own-preserved g c = none-more
    kept c.args.claims.now c.loop-own.own-index c.own-item.result c.loop-own-test.true c.own-item.is
    (λ d. is_conflict (claim_of c.args.claim.now) d
    && is_valid (as_setting (g.V.Scheme.valid c.args.scheme.now) c.args.group.now c.args.roster.now) d)
    c.loop-own.invariant (sym c.contradicts.ensures ∙ c.if-contradicts.false)

pub returns-then-contradicts : goal.returns-then-contradicts
returns-then-contradicts g c = sym (some-here
    kept c.args.claims.now c.loop-own.own-index c.own-item.result c.loop-own-test.true c.own-item.is
    (λ d. is_conflict (claim_of c.args.claim.now) d
    && is_valid (as_setting (g.V.Scheme.valid c.args.scheme.now) c.args.group.now c.args.roster.now) d)
    (sym c.contradicts.ensures ∙ c.if-contradicts.true))

pub returns : goal.returns
returns g c =
    let le : length c.args.claims.now ≤ c.loop-own.own-index = omega (arith, c.loop-own-test.false) in
    sym (subst (λ owns. list_any (λ d. is_conflict (claim_of c.args.claim.now) d
    && is_valid (as_setting (g.V.Scheme.valid c.args.scheme.now) c.args.group.now c.args.roster.now) d) (all_kept owns) ≡ false)
    (take_all c.loop-own.own-index c.args.claims.now le) c.loop-own.invariant)
