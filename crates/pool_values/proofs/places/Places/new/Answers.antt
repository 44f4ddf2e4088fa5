use Rattle.std.proofs.Common.{◌∙◌, [], refl, ap}
use Rattle.group_defs.specs.Views.{View}
use Rattle.placed_batches.specs.Rows.{Prefix}
use Rattle.pool_values.proofs.Marked.{empty-marked}
use Rattle.pool_values.proofs.places.Places.new.Goals as goal

abbrev none_of : View → Prefix
none_of v = record { view = v; batches = [] }

pub invariant_of-result : goal.invariant_of-result
invariant_of-result c =
    empty-marked c.args.view c.in_ok-prefix.prefix c.new-quorums.result.pool c.new-quorums.result.marked c.new-notified.result
    c.nothing.result (c.in_ok-prefix.ensures ∙ ap none_of c.copy_of.ensures) c.new-quorums.ensures.pool c.new-quorums.ensures.marked
    c.new-notified.ensures _ refl c.nothing.ensures.placed c.nothing.ensures.fixed c.nothing.ensures.notified c.nothing.ensures.ends
