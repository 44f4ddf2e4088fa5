use Rattle.std.proofs.Common.{◌≡◌, ◌∙◌, [], ap, get_or, sym, subst, arith, ◌<◌, ◌≤◌, length}
use Rattle.std.specs.Prelude.{◌&&◌}
use Rattle.std.specs.List.{list_any, AllByRecursion}
use Rattle.std.proofs.lemmas.List.{take_all}
use Rattle.message_defs.specs.Spelling.{IsClaim}
use Rattle.group_defs.specs.Hearing.{is_valid}
use Rattle.pool_laws.proofs.Tests.{and-first, and-second}
use Rattle.stmt_codec.specs.Views.{claim as claim_of}
use Rattle.claim_pool.specs.Settings.{as_setting}
use Rattle.conviction_defs.specs.Convictions.{has_conflict, is_conflict, is_on_slot}
use Rattle.conviction.specs.Own.{all_kept, kept}
use Rattle.conviction.specs.Slots.{valid_on}
use Rattle.conviction.proofs.Walking.{at-is, rest-is, valid-found, valid-later}
use Rattle.conviction.proofs.verifying.slot_convicts.Goals as goal

pub is_valid_on-requires : goal.is_valid_on-requires
is_valid_on-requires g c =
    let lt : c.loop-place.place < length c.args.claims.now = omega (arith, c.loop-place-test.true) in
    (at-is kept c.args.claims.now c.loop-place.place (get_or c.args.claims.now c.loop-place.place c.index-claims-place.result) lt (ap (λ o. get_or c.args.claims.now c.loop-place.place o) c.index-claims-place.is) IsClaim c.requires).1

pub any_contradicts-requires : goal.any_contradicts-requires
any_contradicts-requires g c = subst (λ owns. AllByRecursion IsClaim (all_kept owns)) (sym c.split_at.ensures.back)
    (rest-is kept c.args.claims.now c.loop-place.place IsClaim c.requires)

pub returns-then-is_valid_on : goal.returns-then-is_valid_on
returns-then-is_valid_on g c =
    let s = as_setting (g.V.Scheme.valid c.args.scheme.now) c.args.group.now c.args.roster.now in
    let lt : c.loop-place.place < length c.args.claims.now = omega (arith, c.loop-place-test.true) in
    let both = sym c.is_valid_on.ensures ∙ c.if-is_valid_on.true in
    let on = is_on_slot (claim_of c.args.on.now) (kept (get_or c.args.claims.now c.loop-place.place c.index-claims-place.result)) in
    let valid = is_valid s (kept (get_or c.args.claims.now c.loop-place.place c.index-claims-place.result)) in
    c.any_contradicts.ensures
    ∙ ap (λ owns. list_any (λ d. is_conflict (kept (get_or c.args.claims.now c.loop-place.place c.index-claims-place.result)) d && is_valid s d) (all_kept owns)) c.split_at.ensures.back
    ∙ valid-found kept c.args.claims.now c.loop-place.place (get_or c.args.claims.now c.loop-place.place c.index-claims-place.result) lt (ap (λ o. get_or c.args.claims.now c.loop-place.place o) c.index-claims-place.is) s
    (claim_of c.args.on.now) c.loop-place.invariant (and-first on valid both) (and-second on valid both)

pub loop-place-preserved : goal.loop-place-preserved
loop-place-preserved g c =
    let lt : c.loop-place.place < length c.args.claims.now = omega (arith, c.loop-place-test.true) in
    valid-later kept c.args.claims.now c.loop-place.place (get_or c.args.claims.now c.loop-place.place c.index-claims-place.result) lt (ap (λ o. get_or c.args.claims.now c.loop-place.place o) c.index-claims-place.is)
    (as_setting (g.V.Scheme.valid c.args.scheme.now) c.args.group.now c.args.roster.now)
    (claim_of c.args.on.now) c.loop-place.invariant (sym c.is_valid_on.ensures ∙ c.if-is_valid_on.false)

pub returns : goal.returns
returns g c =
    let s = as_setting (g.V.Scheme.valid c.args.scheme.now) c.args.group.now c.args.roster.now in
    let le : length c.args.claims.now ≤ c.loop-place.place = omega (arith, c.loop-place-test.false) in
    sym (ap has_conflict (subst (λ owns. valid_on s (claim_of c.args.on.now) (all_kept owns) ≡ [])
    (take_all c.loop-place.place c.args.claims.now le) c.loop-place.invariant))
