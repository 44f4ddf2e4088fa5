use Rattle.std.proofs.Common.{◌≡◌, ◌∙◌, map, true, false, refl, sym, ap, subst}
use Rattle.std.specs.Prelude.{is_some, IfSome, IsTrue}
use Rattle.message_defs.specs.Spelling.{IsViewNumber}
use Rattle.group_defs.specs.Views.{View, IsView}
use Rattle.image_defs.specs.Images.{process_of, view_behind}
use Rattle.image_defs.specs.Kept.{AreLeft, IsKept}
use Rattle.restored_present.specs.Left.{HasPast, IsLeftSo, AreByPlace, installed_from}
use Rattle.snapshot_rp.specs.Views.{delivered, left_view, image as image_as}
use Rattle.restored_present.specs.Parts.{HasPresent, IsPresentSo, IsReportedSo}
use Rattle.member_restoring.proofs.Kept.{left-so, present-so, stand-so, reported-so}
use Rattle.member_restoring.proofs.Outcomes.{none-so, some-so}
use Rattle.member_restoring.proofs.Begun.{kept-so, of-so, own-so}
use Rattle.member_restoring.proofs.Whole.{pairs-are, state-is}
use Rattle.member_restoring.proofs.state.state_of.Goals as goal

clash : {b : _} → b ≡ true → b ≡ false → ⊥
clash e f = cc

pub returns-then-not-are_by_place-clause-exact : goal.returns-then-not-are_by_place-clause-exact
returns-then-not-are_by_place-clause-exact g c s judges = (
  λ no_way. absurd cc,
  λ kept. absurd (clash (c.are_by_place.ensures.1 (subst (λ lists. AreByPlace (map (λ es. map delivered es.items) lists))
      (sym c.deref.ensures.value) (stand-so s (image_as c.args.image) c.requires.spelled.lists kept))) c.if-not-are_by_place.true),
)

pub left_in-requires-clause-placed : goal.left_in-requires-clause-placed
left_in-requires-clause-placed g c =
    subst (λ lists. AreByPlace (map (λ es. map delivered es.items) lists)) c.deref.ensures.value
    (c.are_by_place.ensures.0 c.if-not-are_by_place.false)

pub returns-in_default-clause-exact : goal.returns-in_default-clause-exact
returns-in_default-clause-exact g c s judges = (
  λ no_way. absurd cc,
  λ kept. absurd (none-so _ (IsLeftSo s (image_as c.args.image)) c.in_default.is (c.in_ok-left.ensures.exact s judges)
      (left-so s (image_as c.args.image) c.requires.spelled.lists kept)),
)

pub returns-then-not-is_reported-clause-exact : goal.returns-then-not-is_reported-clause-exact
returns-then-not-is_reported-clause-exact g c s judges = (
  λ no_way. absurd cc,
  λ kept. absurd (let image = image_as c.args.image in
      let here : c.in-Some.left.view ≡ view_behind c.args.genesis image.left
      = (subst (λ o. IfSome o (λ l. (l.view ≡ view_behind c.args.genesis image.left) × HasPast s image l.archive)) c.in-Some.is
      (c.in_ok-left.ensures.past s judges)).0 in
      let reported = subst (λ (v : View). IsReportedSo s v image) (sym (here ∙ ap (λ (v : View). view_behind v image.left) (sym judges.genesis_is)))
      (reported-so s image c.requires.spelled.lists kept) in
      clash ((c.is_reported.ensures s judges.shares).1 reported) c.if-not-is_reported.true),
)

pub present_after-requires-clause-placed : goal.present_after-requires-clause-placed
present_after-requires-clause-placed g c =
    subst (λ lists. AreByPlace (map (λ es. map delivered es.items) lists)) c.deref.ensures.value
    (c.are_by_place.ensures.0 c.if-not-are_by_place.false)

pub returns-in_default-2-clause-exact : goal.returns-in_default-2-clause-exact
returns-in_default-2-clause-exact g c s judges = (
  λ no_way. absurd cc,
  λ kept. absurd (let image = image_as c.args.image in
      let here : c.in-Some.left.view ≡ view_behind c.args.genesis image.left
      = (subst (λ o. IfSome o (λ l. (l.view ≡ view_behind c.args.genesis image.left) × HasPast s image l.archive)) c.in-Some.is
      (c.in_ok-left.ensures.past s judges)).0 in
      none-so _ (IsPresentSo s (process_of s 1 image)) c.in_default-2.is (c.in_ok-present.ensures.exact s judges.shares
      (here ∙ ap (λ (v : View). view_behind v image.left) (sym judges.genesis_is))) (present-so s image c.requires.spelled.lists kept)),
)

pub returns-in_default-3-clause-exact : goal.returns-in_default-3-clause-exact
returns-in_default-3-clause-exact g c s judges = (
  λ no_way. absurd cc,
  λ kept. absurd (let image = image_as c.args.image in
      let lefts = subst (λ (v : View). AreLeft s v image.left) judges.genesis_is (left-so s image c.requires.spelled.lists kept).left in
      clash (subst (λ o. IsTrue (is_some o)) c.in_default-3.is (c.in_ok-views.ensures.some s
      (subst (λ ls. AreLeft s c.args.genesis (map left_view ls)) (sym c.deref-2.ensures.value) lefts))) refl),
)

pub returns-clause-exact : goal.returns-clause-exact
returns-clause-exact g c s judges =
    let image = image_as c.args.image in
    let l = subst (λ o. IfSome o (λ l. (l.view ≡ view_behind c.args.genesis image.left) × HasPast s image l.archive)) c.in-Some.is
    (c.in_ok-left.ensures.past s judges) in
    let left = some-so _ c.in-Some.left (IsLeftSo s image) c.in-Some.is (c.in_ok-left.ensures.exact s judges) in
    let reported = (c.is_reported.ensures s judges.shares).0 c.if-not-is_reported.false in
    let present = some-so _ c.in-Some-2.present (IsPresentSo s (process_of s 1 image)) c.in-Some-2.is (c.in_ok-present.ensures.exact s judges.shares
    (l.0 ∙ ap (λ (v : View). view_behind v image.left) (sym judges.genesis_is))) in
    let placed = subst (λ lists. AreByPlace (map (λ es. map delivered es.items) lists)) c.deref.ensures.value
    (c.are_by_place.ensures.0 c.if-not-are_by_place.false) in
    let kept : IsKept s image = kept-so s image c.args.genesis judges.genesis_is c.requires.spelled.lists placed left c.in-Some.left.view l.0 reported present in
    (λ some. kept, λ so. refl)

pub returns-clause-is : goal.returns-clause-is
returns-clause-is g c s judges =
    let image = image_as c.args.image in
    let p = process_of s c.args.batch_limit image in
    let l = subst (λ o. IfSome o (λ l. (l.view ≡ view_behind c.args.genesis image.left) × HasPast s image l.archive)) c.in-Some.is
    (c.in_ok-left.ensures.past s judges) in
    let behind : c.in-Some.left.view ≡ view_behind s.genesis image.left
    = l.0 ∙ ap (λ (v : View). view_behind v image.left) (sym judges.genesis_is) in
    let left = some-so _ c.in-Some.left (IsLeftSo s image) c.in-Some.is (c.in_ok-left.ensures.exact s judges) in
    let reported = (c.is_reported.ensures s judges.shares).0 c.if-not-is_reported.false in
    let present = some-so _ c.in-Some-2.present (IsPresentSo s (process_of s 1 image)) c.in-Some-2.is
    (c.in_ok-present.ensures.exact s judges.shares behind) in
    let placed = subst (λ lists. AreByPlace (map (λ es. map delivered es.items) lists)) c.deref.ensures.value
    (c.are_by_place.ensures.0 c.if-not-are_by_place.false) in
    let kept : IsKept s image = kept-so s image c.args.genesis judges.genesis_is c.requires.spelled.lists placed left c.in-Some.left.view l.0 reported present in
    let now = subst (λ o. IfSome o (λ now. HasPresent s p now.own now.pool.pool now.phase)) c.in-Some-2.is
    (c.in_ok-present.ensures.is s c.args.batch_limit judges.shares behind present (own-so s c.in-Some.left.view image reported)) in
    let views = subst (λ ls. c.in-Some-3.views.items ≡ installed_from c.args.genesis (map left_view ls)) c.deref-2.ensures.value
    (subst (λ o. IfSome o (λ vs. vs.items ≡ installed_from c.args.genesis (map left_view c.deref-2.result.now))) c.in-Some-3.is
    c.in_ok-views.ensures.views) in
    state-is s c.args.batch_limit image c.requires.spelled kept c.in_ok-state.state (ap (λ (v : View). v.number) judges.genesis_is ∙ c.requires.number)
    (subst IsView (sym judges.genesis_is) c.number-first.ensures.within.1) (subst (λ (v : View). IsViewNumber v.number) behind c.in_ok-state.ensures.view.0)
    (subst IsView behind c.in_ok-state.ensures.view.1)
    c.requires.some c.requires.few
    (c.in_ok-state.ensures.parts s p now l.1 (of-so s c.args.batch_limit image c.args.genesis c.in-Some-3.views.items judges.genesis_is
    c.requires.spelled.lists views) refl (ap (λ (v : View). v.number) (sym behind)) (pairs-are s c.args.batch_limit image c.requires.spelled kept).once)
