use Rattle.std.proofs.Common.{◌≡◌, [], map, subst}
use Rattle.std.specs.Prelude.{◌↔◌, IsTrue, IsFalse}
use Rattle.group_defs.specs.Views.{View, is_member}
use Rattle.snapshot_rp.specs.Views.{delivered}
use Rattle.restored_present.proofs.present.is_shown.Goals as goal

pub returns : goal.returns
returns c =
    let inside = subst (λ (v : View). IsTrue c.may_deliver-inside.result ↔ (IsFalse (is_member v c.args.me) → map delivered c.args.delivered.now ≡ []))
    c.view.ensures c.may_deliver-inside.ensures in
    let placed = c.are_placed-placed.ensures c.requires.by c.requires.places in (
      λ ok. (let three = c.hold.ensures.0 ok in
          record { outside = inside.0 three.0; placed = placed.0 three.1; paid = c.are_paid-paid.ensures.0 three.2 }),
      λ so. c.hold.ensures.1 (inside.1 so.outside, placed.1 so.placed, c.are_paid-paid.ensures.1 so.paid),
    )
