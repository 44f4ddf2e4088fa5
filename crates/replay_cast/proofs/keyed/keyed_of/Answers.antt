use Rattle.std.proofs.Common.{◌+◌, List, refl, subst, sym}
use Rattle.schedule_file.specs.Views as views
use Rattle.std.specs.Prelude.{map, take}
use Rattle.replay_cast.specs.declared.keyed.Keyed.{Keyed}
use Rattle.replay_cast.specs.Keyed.{AreKeyed}
use Rattle.replay_cast.proofs.Listing.{key_at, keyed_more}
use Rattle.replay_cast.proofs.keyed.keyed_of.Goals as goal

pub signer_of-requires : goal.signer_of-requires
signer_of-requires c = key_at c.args.scheme 0 c.args.processes.now c.loop-one.one-index c.one-item.result c.requires c.loop-one-test.true
    c.one-item.is

pub loop-one-preserved : goal.loop-one-preserved
loop-one-preserved c =
    let i = c.loop-one.one-index in
    let x = c.one-item.result in
    let P : List Keyed → Type 0 = λ ks. AreKeyed (map views.listed (take (i + 1) c.args.processes.now)) ks in
    subst P (sym c.in_ok-push.ensures.items)
    (keyed_more c.args.processes.now c.loop-one.all.items i x _ c.loop-one-test.true c.one-item.is c.loop-one.invariant
    (record { process = refl; corrupt = refl; signer = c.in_ok-signer.ensures }))
