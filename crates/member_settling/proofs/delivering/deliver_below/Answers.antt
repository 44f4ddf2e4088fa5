use Rattle.std.proofs.Common.{refl, ◌∙◌}
use Rattle.std.proofs.Math.Logic.{∥∥₁_map}
use Rattle.member_settling.proofs.Loop.{begins, goes-on, stops, ends, has-process}
use Rattle.member_settling.proofs.delivering.deliver_below.Goals as goal

pub places-init : goal.places-init
places-init c = (
  (λ s p ok. begins s p c.args.limit c.args.state.now c.args.notes.now.items (c.requires.limit s p ok) ok),
  (λ b was is. is),
  refl,
)

pub deliver_place-requires : goal.deliver_place-requires
deliver_place-requires c = ∥∥₁_map c.requires.real
    (λ real. has-process real.setting real.process c.args.limit c.places._place c.places.state c.args.notes.now.items c.places.notes.items
    (c.places.invariant.0 real.setting real.process real.state))

pub places-preserved : goal.places-preserved
places-preserved c = (
  (λ s p ok.
      let on = c.places.invariant.0 s p ok in
      goes-on s p c.args.limit c.places._place c.places.state c.deliver_place.new.state c.args.notes.now.items c.places.notes.items
      c.deliver_place.new.notes.items c.in-Some.batch c.places-test.true c.in-Some.ensures on
      (λ ds next. c.in_ok-deliver_place.ensures.delivers s on.q on.delivers.state ds next)),
  (λ b was is. c.deliver_place.ensures.stays b was (c.places.invariant.1 b was is)),
  c.deliver_place.ensures.left ∙ c.places.invariant.2,
)

pub returns-in_default-clause-delivers : goal.returns-in_default-clause-delivers
returns-in_default-clause-delivers c = λ s p ok. stops s p c.args.limit c.places._place c.places.state c.args.notes.now.items
    c.places.notes.items c.places-test.true c.in_default.ensures (c.places.invariant.0 s p ok)

pub returns-in_err-deliver_place-clause-stays : goal.returns-in_err-deliver_place-clause-stays
returns-in_err-deliver_place-clause-stays c b was is = c.deliver_place.ensures.stays b was (c.places.invariant.1 b was is)

pub returns-clause-delivers : goal.returns-clause-delivers
returns-clause-delivers c = λ s p ok. ends s p c.args.limit c.places._place c.places.state c.args.notes.now.items c.places.notes.items
    c.places-test.false (c.places.invariant.0 s p ok)
