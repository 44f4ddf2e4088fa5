-- Names of the crates below, for those above: they need not name these.
pub use Rattle.kit_defs.specs.KitReading.{KitFault}
pub use Rattle.kit_defs.specs.Kits.{Host, Kit, kit_digest}
