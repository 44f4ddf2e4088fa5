use Rattle.std.proofs.Common.{◌≡◌, ◌∙◌, ◌+◌, ◌<◌, length, take, sym, ap, rules}
use Rattle.rp_devices.specs.Held.{Held, opened, after, changed, remains}
use Rattle.rp_devices.proofs.Changes.{after-next}
use Rattle.rp_devices.proofs.images.remains_of.Goals as goal

pub loop-change-preserved : goal.loop-change-preserved
loop-change-preserved c =
    let log = c.args.log.now in
    let i = c.loop-change.change-index in
    let h = after (opened c.args.first.now) (take i log) in
    let lt : i < length log = search rules in
    let next : after (opened c.args.first.now) (take (i + 1) log)
    ≡ changed h c.change-item.result = after-next (opened c.args.first.now) log i c.change-item.result lt c.change-item.is in
    let both = c.in_ok-change_both.ensures h c.loop-change.invariant.0 c.loop-change.invariant.1 in (
      both.0 ∙ ap (λ (k : Held). k.file) (sym next),
      both.1 ∙ ap (λ (k : Held). remains c.args.byte k) (sym next),
    )
