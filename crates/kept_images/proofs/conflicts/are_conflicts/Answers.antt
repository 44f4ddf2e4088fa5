use Rattle.claim_pool.specs.Settings.{as_setting}
use Rattle.kept_images.proofs.Facts.{conflicts-all}
use Rattle.kept_images.proofs.conflicts.are_conflicts.Goals as goal

pub returns : goal.returns
returns g c = conflicts-all (as_setting (g.V.Scheme.valid c.args.scheme.now) c.args.group.now c.args.roster.now) c.args.pairs.now
    c.are_apart.result c.are_apart.ensures
