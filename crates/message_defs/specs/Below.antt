-- Names of the crates below, for those above: they need not name these.
pub use Rattle.byte_defs.specs.Choices.{first_some, first_that_holds, is_some_and}
pub use Rattle.byte_defs.specs.Equality.{both, bytes_discrete, is_yes, option_discrete, pair_discrete}
pub use Rattle.byte_defs.specs.Members.{has}
pub use Rattle.byte_defs.specs.Orders.{least, least_from, numbers_below, put, sorted}
