use Rattle.std.proofs.Common.{◌∙◌, [], refl, ap}
use Rattle.group_defs.specs.Views.{View}
use Rattle.placed_batches.specs.Rows.{Prefix}
use Rattle.pool_values.proofs.Marked.{empty-marked}
use Rattle.pool_values.proofs.places.Places.turn_to.Goals as goal

abbrev none_of : View → Prefix
none_of v = record { view = v; batches = [] }

pub invariant_of-self : goal.invariant_of-self
invariant_of-self c =
    empty-marked c.args.view c.turn_to.new.self c.turn_to-2.new.self.pool c.turn_to-2.new.self.marked c.new-self-inside.result
    c.nothing-self-inside.result (c.turn_to.ensures ∙ ap none_of c.copy_of.ensures) c.turn_to-2.ensures.pool c.turn_to-2.ensures.marked
    c.new-self-inside.ensures _ refl c.nothing-self-inside.ensures.placed c.nothing-self-inside.ensures.fixed
    c.nothing-self-inside.ensures.notified c.nothing-self-inside.ensures.ends
