use Rattle.std.proofs.Common.{◌≡◌, ◌∙◌, ◌+◌, ◌-◌, ℕ, suc, sym, ap, arith, map}
use Rattle.std.specs.Prelude.{option_and_then}
use Rattle.group_defs.specs.Process.{Pool}
use Rattle.snapshot_rp.specs.Views.{delivered}
use Rattle.heard_images.specs.Walks.{after_places}
use Rattle.heard_images.proofs.placed.after_places.Goals as goal

pub places-preserved : goal.places-preserved
places-preserved c =
    let h : Pool = c.args.pool.now.pool in
    let less : ℕ = c.args.places - (c.places.place + 1) in
    let one : suc less ≡ c.args.places - c.places.place = (let lt = c.places-test.true in omega (arith, lt)) in
    ap (option_and_then (after_places h less (c.places.place + 1))) c.in-Some.ensures
    ∙ ap (λ n. after_places h n c.places.place (map delivered c.places.left.now)) one ∙ c.places.invariant
