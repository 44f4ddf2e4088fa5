use Rattle.std.proofs.Common.{◌∙◌, map, sym, ap, subst}
use Rattle.group_defs.specs.Views.{View}
use Rattle.image_defs.specs.Images.{view_behind}
use Rattle.image_defs.specs.Kept.{AreLeft}
use Rattle.snapshot_rp.specs.Views.{left_view, image as image_as}
use Rattle.restored_left.specs.Judged.{Judges}
use Rattle.restored_left.specs.Parts.{HasPast, IsLeftSo}
use Rattle.restored_left.proofs.Judged.{left-are}
use Rattle.restored_left.proofs.Outcomes.{both-as, some-as}
use Rattle.restored_left.proofs.past.left_in.Goals as goal

pub returns-in_ok-archive_in-in-Some-clause-exact : goal.returns-in_ok-archive_in-in-Some-clause-exact
returns-in_ok-archive_in-in-Some-clause-exact g c s judges =
    let image = image_as c.args.image.now in
    let lefts = (left-are s _ _ _ c.args.genesis.now judges c.copied.result c.copied.ensures (map left_view c.deref.result.now) image.left
    (ap (map left_view) c.deref.ensures.value)).0 c.in-Some.ensures.0 in
    let again : Judges s _ _ _ c.copied-in-Some.result
    = record { shares = judges.shares; genesis_is = judges.genesis_is ∙ sym c.copied-in-Some.ensures; kinds = judges.kinds } in
    some-as c.with_view.result _ (IsLeftSo s image) c.with_view.ensures.some (c.in_ok-archive_in-in-Some.ensures.exact s again
    (subst (λ (v : View). AreLeft s v image.left) (sym c.copied-in-Some.ensures) lefts))

pub returns-in_ok-archive_in-in-Some-clause-past : goal.returns-in_ok-archive_in-in-Some-clause-past
returns-in_ok-archive_in-in-Some-clause-past g c s judges =
    let image = image_as c.args.image.now in
    let lefts = (left-are s _ _ _ c.args.genesis.now judges c.copied.result c.copied.ensures (map left_view c.deref.result.now) image.left
    (ap (map left_view) c.deref.ensures.value)).0 c.in-Some.ensures.0 in
    let again : Judges s _ _ _ c.copied-in-Some.result
    = record { shares = judges.shares; genesis_is = judges.genesis_is ∙ sym c.copied-in-Some.ensures; kinds = judges.kinds } in
    both-as c.with_view.result _ (λ l. l.view) (λ l. l.archive) c.in-Some.view (view_behind c.args.genesis.now image.left) (HasPast s image)
    c.with_view.ensures.view c.with_view.ensures.archive
    (c.in-Some.ensures.1 ∙ (λ j. view_behind (c.copied.ensures j) (map left_view (c.deref.ensures.value j))))
    (c.in_ok-archive_in-in-Some.ensures.past s again
    (subst (λ (v : View). AreLeft s v image.left) (sym c.copied-in-Some.ensures) lefts))

pub returns-in-None-clause-exact : goal.returns-in-None-clause-exact
returns-in-None-clause-exact g c s judges = (
  λ no_way. absurd cc,
  λ so. absurd (c.in-None.ensures ((left-are s _ _ _ c.args.genesis.now judges c.copied.result c.copied.ensures
      (map left_view c.deref.result.now) (image_as c.args.image.now).left (ap (map left_view) c.deref.ensures.value)).1 (subst (λ (v : View). AreLeft s v (image_as c.args.image.now).left) judges.genesis_is so.left))),
)
