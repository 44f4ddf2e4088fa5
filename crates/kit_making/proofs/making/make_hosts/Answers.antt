use Rattle.std.proofs.Common.{ap, ◌∙◌}
use Rattle.kit_file.specs.Views.{hosts}
use Rattle.kit_making.proofs.Made.{hosts_more}
use Rattle.kit_making.proofs.making.make_hosts.Goals as goal

pub loop-p-preserved : goal.loop-p-preserved
loop-p-preserved c =
    ap hosts c.in_ok-push.ensures.items
    ∙ hosts_more c.args.keys c.args.seed.now c.args.count c.loop-p.p _ c.process.ensures c.secret_of.ensures c.in_ok-make_pairs.ensures
    c.loop-p.all.items c.loop-p.invariant
