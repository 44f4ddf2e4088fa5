-- What the parts of a state say: in the words of the crates below, passed on.
pub use Rattle.reliable_mcast.specs.Archives.{Archived, Keeps}
pub use Rattle.ending_rules.specs.Perceiving.{fault, has_update}
pub use Rattle.ending_rules.specs.Due.{HasKeys}
pub use Rattle.view_phases.specs.Phases.{word}
pub use Rattle.accounts.specs.Views.{account}
pub use Rattle.reliable_mcast.specs.Certificates.{all_signed, IsRanged}
