use Rattle.std.proofs.Common.{sym, ◌∙◌}
use Rattle.std.proofs.lemmas.List.Folds.{list_all-map}
use Rattle.snapshot_rp.specs.Views.{delivered}
use Rattle.heard_images.specs.Walks.{is_paid}
use Rattle.heard_images.proofs.Walks.{paid-is}
use Rattle.heard_images.proofs.placed.are_paid.Goals as goal

pub returns : goal.returns
returns c = paid-is c.args.pool.now.pool delivered c.args.delivered.now c.each_is_paid.result
    (c.each_is_paid.ensures ∙ sym (list_all-map (is_paid c.args.pool.now.pool) delivered c.args.delivered.now))
