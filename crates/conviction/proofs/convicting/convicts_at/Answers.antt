use Rattle.std.proofs.Common.{◌∙◌, ap, get_or, sym, subst, true, false}
use Rattle.std.specs.List.{AllByRecursion}
use Rattle.message_defs.specs.Spelling.{IsClaim}
use Rattle.claim_pool.specs.Settings.{as_setting}
use Rattle.conviction_defs.specs.Convictions.{has_conflict, is_conflict, is_on_slot}
use Rattle.conviction.specs.Own.{all_kept, kept}
use Rattle.conviction.specs.Slots.{valid_on}
use Rattle.conviction.proofs.Walking.{convicts-on, rest-is, seen-is, slot-acquits, slot-agrees, slot-seen}
use Rattle.conviction.proofs.convicting.convicts_at.Goals as goal

pub returns-then-has_slot-clause-none : goal.returns-then-has_slot-clause-none
returns-then-has_slot-clause-none g c = λ _ quiet.
    slot-seen kept c.args.claims.now c.args.place (get_or c.args.claims.now c.args.place c.index-claims-place.result) c.requires.place (ap (λ o. get_or c.args.claims.now c.args.place o) c.index-claims-place.is)
    (as_setting (g.V.Scheme.valid c.args.scheme.now) c.args.group.now c.args.roster.now)
    (seen-is (is_on_slot (kept (get_or c.args.claims.now c.args.place c.index-claims-place.result))) kept _ _ _ true c.has_slot.ensures c.split_at.ensures.front c.if-has_slot.true)
    quiet

pub returns-then-not-has_other_content-clause-none : goal.returns-then-not-has_other_content-clause-none
returns-then-not-has_other_content-clause-none g c = λ _ quiet.
    slot-agrees kept c.args.claims.now c.args.place (get_or c.args.claims.now c.args.place c.index-claims-place.result) c.requires.place (ap (λ o. get_or c.args.claims.now c.args.place o) c.index-claims-place.is)
    (as_setting (g.V.Scheme.valid c.args.scheme.now) c.args.group.now c.args.roster.now)
    (seen-is (is_on_slot (kept (get_or c.args.claims.now c.args.place c.index-claims-place.result))) kept _ _ _ false c.has_slot.ensures c.split_at.ensures.front c.if-has_slot.false)
    (seen-is (is_conflict (kept (get_or c.args.claims.now c.args.place c.index-claims-place.result))) kept _ _ _ false c.has_other_content.ensures c.split_at.ensures.back
    c.if-not-has_other_content.true)
    quiet

pub slot_convicts-requires : goal.slot_convicts-requires
slot_convicts-requires g c = subst (λ owns. AllByRecursion IsClaim (all_kept owns)) (sym c.split_at.ensures.back)
    (rest-is kept c.args.claims.now c.args.place IsClaim c.requires.range)

pub returns-clause-some : goal.returns-clause-some
returns-clause-some g c = λ e.
    let s = as_setting (g.V.Scheme.valid c.args.scheme.now) c.args.group.now c.args.roster.now in
    convicts-on kept c.args.claims.now c.args.place (get_or c.args.claims.now c.args.place c.index-claims-place.result) c.requires.place (ap (λ o. get_or c.args.claims.now c.args.place o) c.index-claims-place.is) s
    (ap (λ owns. has_conflict (valid_on s (kept (get_or c.args.claims.now c.args.place c.index-claims-place.result)) (all_kept owns))) (sym c.split_at.ensures.back)
    ∙ sym c.slot_convicts.ensures ∙ e)

pub returns-clause-none : goal.returns-clause-none
returns-clause-none g c = λ e quiet.
    let s = as_setting (g.V.Scheme.valid c.args.scheme.now) c.args.group.now c.args.roster.now in
    slot-acquits kept c.args.claims.now c.args.place (get_or c.args.claims.now c.args.place c.index-claims-place.result) c.requires.place (ap (λ o. get_or c.args.claims.now c.args.place o) c.index-claims-place.is) s
    (seen-is (is_on_slot (kept (get_or c.args.claims.now c.args.place c.index-claims-place.result))) kept _ _ _ false c.has_slot.ensures c.split_at.ensures.front c.if-has_slot.false)
    (ap (λ owns. has_conflict (valid_on s (kept (get_or c.args.claims.now c.args.place c.index-claims-place.result)) (all_kept owns))) (sym c.split_at.ensures.back)
    ∙ sym c.slot_convicts.ensures ∙ e)
    quiet
