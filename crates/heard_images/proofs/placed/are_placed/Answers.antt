use Rattle.std.proofs.Common.{map}
use Rattle.snapshot_rp.specs.Views.{delivered}
use Rattle.heard_images.proofs.Walks.{empty-so, left-is, none-left, so-empty}
use Rattle.heard_images.proofs.placed.are_placed.Goals as goal

pub returns-in-Some : goal.returns-in-Some
returns-in-Some c = λ by many.
    left-is c.args.pool.now.pool (map delivered c.args.delivered.now) by c.args.places many delivered c.in-Some.left.now c.is_empty.result
    c.in-Some.ensures (empty-so c.in-Some.left.now c.is_empty.result c.is_empty.ensures)
    (so-empty c.in-Some.left.now c.is_empty.result c.is_empty.ensures)

pub returns-in-None : goal.returns-in-None
returns-in-None c = λ by many.
    none-left c.args.pool.now.pool (map delivered c.args.delivered.now) by c.args.places many c.in-None.ensures
